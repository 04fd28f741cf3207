-- The parts of a macroblock as the code reads them over a wide reader, by groups: 0 is the second-order block, 1 luma, 2 U, 3 V. The blocks
-- of a group are a square, read row after row.
use Rattle.std.specs.Prelude.{◌+◌, ◌*◌, ◌^◌, ◌≤◌, ◌<◌, ◌≡◌, ◌&&◌}
use Rattle.numbers.specs.Words.{ℕ, zero, suc, Bool, true, List, length, get_or, replicate, all_below, ℤ, pos}
use Rattle.header.specs.Header.{probability_count}
use Rattle.header.specs.declared.quantizers.Factors.{Factors}
use Rattle.reader.specs.Reading.{Reading}
use Rattle.reader.specs.declared.boolean.Reader.{Reader}
use Rattle.transform.specs.Transform.{transform_of}
use Rattle.wide.specs.Counted.{counted}
use Rattle.wide.specs.Padded.{run_padded}
use Rattle.wide.specs.WideLaws.{Sim}
use Rattle.wide.specs.WideRuns.{Going}
use Rattle.wide.specs.declared.wide.Wide.{Wide}
use Rattle.residual.specs.Residual.{Model, Flags, second_kind_of, kind_of, sixteen_at, stored, zero_of}
use Rattle.residual.specs.Symbols.{Ranged}
use Rattle.residual.specs.Quick.{Wider, in_blocks, parts_from}
use Rattle.residual.specs.declared.quick.Group.{Group}

-- the part that a group starts with
abbrev pub start_of : (g : ℕ) → ℕ
start_of zero = 0
start_of (suc zero) = 1
start_of (suc (suc c)) = 17 + 4 * c

abbrev pub group_of : Factors → (small : Bool) → (g : ℕ) → Group
group_of f small zero = record { kind = second_kind_of f; side = 1; flag = 8; at = 384; step = 1 }
group_of f small (suc zero) = record { kind = kind_of f small 0; side = 4; flag = 0; at = 0; step = 16 }
group_of f small (suc (suc c)) = record { kind = kind_of f small 16; side = 2; flag = 4 + 2 * c; at = 256 + 4 * c; step = 8 }

-- its flags are among the nine, its numbers among the 400
pub record GroupFits (k : Group) : Type 0 where
  pub kind : k.kind.kind < 4
  pub first : k.kind.first ≤ 1
  pub flag : k.flag + k.side ≤ 9
  pub low : 1 ≤ k.step
  pub high : k.step ≤ 16
  pub last : k.at + k.side * k.side + 15 * k.step ≤ 400

-- ---- behind a group
-- the transform of the second-order block gives the first coefficient of each luma block: lane 0
abbrev pub settled_of : (g : ℕ) → (flat : List ℤ) → List ℤ
settled_of zero flat = stored flat 0 (transform_of (sixteen_at flat 384) true).samples
settled_of (suc g) flat = flat

-- whether no block so far ended past 1: the second-order block has no say
abbrev pub none_after : (g : ℕ) → (none : Bool) → Bool
none_after zero none = true
none_after (suc g) none = none

-- ---- whether the macroblock is empty is asked behind all groups
-- whether n numbers from a place on are 0
abbrev pub zeros_at : (l : List ℤ) → (at n : ℕ) → Bool
zeros_at l at n = all_below n (λ i. zero_of (get_or l (at + i) (pos 0)))

-- whether the first coefficients of the first n blocks are
abbrev pub firsts_of : (n : ℕ) → (coefficients : List ℤ) → Bool
firsts_of n l = all_below n (λ i. zero_of (get_or l (16 * i) (pos 0)))

-- ---- the model before part j, on the way through group g
abbrev pub numbers_in : (g j : ℕ) → (flat : List ℤ) → List ℤ
numbers_in g zero flat = flat
numbers_in g (suc i) flat = settled_of g flat

abbrev pub empty_in : (g j : ℕ) → (none : Bool) → (flat : List ℤ) → Bool
empty_in g zero none flat = true
empty_in g (suc i) none flat = none_after g none && firsts_of i (in_blocks (settled_of g flat))

abbrev pub model_in : (g j : ℕ) → Wider → (flat : List ℤ) → Model
model_in g j m flat = record { top = m.top; left = m.left; coefficients = in_blocks (numbers_in g j flat); empty = empty_in g j m.empty flat }

-- ---- on the way
-- the flags, the memory and the reader
pub record Ready (table : List ℕ) (m : Wider) (flat : List ℤ) : Type 0 where
  pub size : length table ≡ probability_count
  pub top : Flags m.top
  pub left : Flags m.left
  pub long : length flat ≡ 400
  pub ranged : Ranged m.next

-- `whole`, read from `start`, has come to part j, in group g; each part that is left has 1216 bytes' way
pub record Parting (s table : List ℕ) (f : Factors) (small : Bool) (whole : Reading Model) (start : Wide) (g j : ℕ) (m : Wider) (flat : List ℤ) : Type 0 where
  pub more : ℕ
  pub sum : j + more ≡ 25
  pub zeros : j ≡ 0 → flat ≡ replicate 400 (pos 0)
  pub going : (r : Reader) → Sim s start r → start.at + 30400 < 2 ^ 64 → Going s (run_padded (counted 0 whole) s r) (start.at + 30400) 0 (1216 * more) (counted m.reads (parts_from table f small more j (model_in g j m flat))) m.next

-- the blocks of a group were read from the one at `from` up to the one at `to`, whichever group it is
pub record Passed (s table : List ℕ) (k : Group) (from : ℕ) (m : Wider) (flat : List ℤ) (to : ℕ) (q : Wider) (new : List ℤ) : Type 0 where
  pub ready : Ready table q new
  pub few : q.reads + 304 * from ≤ m.reads + 304 * to
  pub on : (f : Factors) (small : Bool) (whole : Reading Model) (start : Wide) (g : ℕ) → g < 4 → k ≡ group_of f small g → Parting s table f small whole start g (start_of g + from) m flat → Parting s table f small whole start g (start_of g + to) q new
