-- The laws of the residual that another crate cites.
use Rattle.std.specs.Prelude.{◌+◌, ◌-◌, ◌*◌, ◌≤◌, ◌<◌, ◌≡◌, ◌&&◌}
use Rattle.numbers.specs.Words.{ℕ, zero, suc, arith, refl, sym, ◌∙◌, ap, Bool, true, false, inl, inr, ⊎_elim, ltb, lt_or, both_true, le-ltb, lt-ltb, bit_of, List, length, get_or, set, replicate, length-replicate, length-set, set_keeps, length_build, get_or_build, get_or_build_past, get_or_constant, placed, length_placed, placed_keeps, ℤ, pos, negsuc, Each, In_wider, num, inside, each_set, Ok, Err}
use Rattle.header.specs.Header.{probability_count, header_of}
use Rattle.reader.specs.declared.boolean.Reader.{Reader}
use Rattle.reader.specs.Reading.{Given, given, missing, valid_of, run, Within, ends, count, ReadOf}
use Rattle.reader.specs.ReadingLaws.{Bytes, Valid, valid_test, never_both, run_valid, within_bind, within_more, count_within}
use Rattle.reader.specs.ReadingLaws as ReadingLaws
use Rattle.header.specs.declared.quantizers.Factors.{Factors}
use Rattle.header.specs.Quantizers.{factors_of_of}
use Rattle.coefficients.specs.BlockLaws.{SixteenBits, Sixteen, block_within}
use Rattle.coefficients.specs.Block.{header_table}
use Rattle.transform.specs.Lanes.{macroblock_blocks}
use Rattle.transform.specs.LanesLaws.{blocks_of_squares}
use Rattle.transform.specs.Transform.{samples_of}
use Rattle.transform.specs.TransformLaws.{CoefficientsIn, transform_good, transform_walsh_in}
use Rattle.residual.specs.Residual.{Residual, Kind, FlagsAt, Model, Flags, ModelInRange, initial, coordinates, second_kind_of, luma_kind, kind_of, flagged, spread, second_place, second, sixteen_at, empty_of, advance, blocks_from, cleared, residual_of, ResidualCalled, to_residual_called, residual_arguments, residual_answer, residual_call_of, residual_by_header_of, residual_reads}
use Rattle.residual.specs.ResidualSteps.{arguments_good, decode_passed, reads_passed, decode_refused, header_passed}

-- ---- what a block goes by: coordinates below 8, a kind below 4, a first position of 0 or 1
pub coordinates_in : (i : ℕ) → i < 24 → ((coordinates i).x < 8) × ((coordinates i).y < 8)
unfolding coordinates
coordinates_in i h =
    ⊎_elim
    (λ (k : i < 16). rw (lt-ltb i 16 k, coordinates) (omega arith, omega arith))
    (λ (k : 16 ≤ i). rw (le-ltb i 16 k, coordinates) (omega arith, omega arith))
    (lt_or i 16)

-- luma goes by the factors of luma, chroma by those of chroma
pub kind_luma : (f : Factors) (small : Bool) (i : ℕ) → i < 16 → kind_of f small i ≡ luma_kind f small
unfolding kind_of
kind_luma f small i k = rw (lt-ltb i 16 k, kind_of)

pub kind_chroma : (f : Factors) (small : Bool) (i : ℕ) → 16 ≤ i → kind_of f small i ≡ record { kind = 2; first = 0; q0 = f.uvdc; q1 = f.uvac }
unfolding kind_of
kind_chroma f small i k = rw (le-ltb i 16 k, kind_of)

pub kind_in : (f : Factors) (small : Bool) (i : ℕ) → ((kind_of f small i).kind < 4) × ((kind_of f small i).first ≤ 1)
kind_in f small i = ⊎_elim (λ k. rw (kind_luma f small i k) (luma small)) (λ k. rw (kind_chroma f small i k) (omega arith, omega arith)) (lt_or i 16)
  where
    luma : (small : Bool) → ((luma_kind f small).kind < 4) × ((luma_kind f small).first ≤ 1)
    luma true = (omega arith, omega arith)
    luma false = (omega arith, omega arith)

-- ---- what goes from block to block
flag_in : (b : Bool) → bit_of b ≤ 1
flag_in true = omega arith
flag_in false = omega arith

flags_set : {l : List ℕ} → Flags l → (x : ℕ) {v : ℕ} → v ≤ 1 → Flags (set l x v)
flags_set {l} h x {v} k = record { long = length-set l x v ∙ h.long; each = set_keeps (λ (n : ℕ). n ≤ 1) l x v 0 k h.each }

-- after a block
pub flags_flagged : {l : List ℕ} → Flags l → (x : ℕ) (on : Bool) → Flags (set l x (bit_of on))
flags_flagged h x on = flags_set h x (flag_in on)

flags_none : Flags (replicate 9 0)
flags_none = record { long = refl; each = λ i. rw (get_or_constant {A = ℕ} 9 i 0) (omega arith) }

pub flags_cleared : (small : Bool) {l : List ℕ} → Flags l → Flags (cleared small l)
flags_cleared true h = flags_set flags_none 8 (h.each 8)
flags_cleared false h = flags_none

no_number : SixteenBits (pos 0)
no_number = In_wider (inside (num (pos 0))) tt

zeros_each : (n : ℕ) → Each (negsuc 32767) (pos 32767) (replicate n (pos 0))
zeros_each n = record { at = λ i. rw (get_or_constant n i (pos 0)) no_number }

pub initial_whole : {top left : List ℕ} → Flags top → Flags left → ModelInRange (initial top left)
initial_whole t l = record { top = t; left = l; long = length-replicate 384 (pos 0); each = zeros_each 384 }

flagged_whole : {m : Model} → ModelInRange m → (k : Kind) (p : FlagsAt) (end : ℕ) {l : List ℤ} (e : Bool) → length l ≡ 384 → Each (negsuc 32767) (pos 32767) l → ModelInRange (flagged k p end l e m)
flagged_whole w k p end e n h = record { top = flags_flagged w.top p.x (ltb k.first end); left = flags_flagged w.left p.y (ltb k.first end); long = n; each = h }

-- ---- the flat list
pub zeros_sixteen : Sixteen (replicate 16 (pos 0))
zeros_sixteen = record { long = refl; each = zeros_each 16 }

pub sixteen_in : {l : List ℤ} (at : ℕ) → Each (negsuc 32767) (pos 32767) l → Sixteen (sixteen_at l at)
unfolding sixteen_at
sixteen_in {l} at h = record { long = length_build 16 _; each = record { at = go } }
  where
    go : (j : ℕ) → SixteenBits (get_or (sixteen_at l at) j (pos 0))
    go j = elim (lt_or j 16) [
      | inl k ↦ rw (get_or_build 16 (λ (j : ℕ). get_or l (at + j) (pos 0)) j (pos 0) k) (h.at (at + j))
      | inr k ↦ rw (get_or_build_past 16 (λ (j : ℕ). get_or l (at + j) (pos 0)) j (pos 0) k) no_number
    ]

placed_each : {l : List ℤ} (at : ℕ) (f : ℕ → ℤ) (n : ℕ) → Each (negsuc 32767) (pos 32767) l → ((j : ℕ) → SixteenBits (f j)) → Each (negsuc 32767) (pos 32767) (placed l at f n)
placed_each {l} at f n h k = record { at = placed_keeps SixteenBits l at f n (pos 0) h.at k }

pub length_spread : (l dc : List ℤ) (n : ℕ) → length (spread l dc n) ≡ length l
unfolding spread
length_spread l dc zero = refl
length_spread l dc (suc n) = length-set (spread l dc n) (16 * n) (get_or dc n (pos 0)) ∙ length_spread l dc n

spread_each : {l dc : List ℤ} (n : ℕ) → Each (negsuc 32767) (pos 32767) l → Each (negsuc 32767) (pos 32767) dc → Each (negsuc 32767) (pos 32767) (spread l dc n)
unfolding spread
spread_each zero h k = h
spread_each (suc n) h k = each_set _ (16 * n) (spread_each n h k) (k.at n)

pub walsh_in : {c : List ℤ} → CoefficientsIn c → Each (negsuc 32767) (pos 32767) (samples_of true c)
walsh_in {c} f = rw (transform_good true f) at (transform_walsh_in c)

pub sixteen_fit : {c : List ℤ} → Sixteen c → CoefficientsIn c
sixteen_fit h = record { fit = λ k l. h.each.at k }

-- ---- what each grammar gives, and how much it asks
at_most : {a b : ℕ} → a ≡ b → a ≤ b
at_most e = omega arith

module _ (table : List ℕ) (f : Factors) (y : Bytes table) where
  pub second_within : {m : Model} → ModelInRange m → Within ModelInRange 304 (second table f m)
  unfolding second
  second_within {m} w =
      within_bind {k = 0} (block_within table 1 f.y2dc f.y2ac y 0 (get_or m.top 8 0 + get_or m.left 8 0) (replicate 16 (pos 0)) (omega arith) zeros_sixteen) (λ c h.
      ends (flagged_whole w (second_kind_of f) second_place c.end m.empty (length_spread m.coefficients (samples_of true c.values) 16 ∙ w.long)
      (spread_each 16 w.each (walsh_in (sixteen_fit h.values)))))

  module _ (small : Bool) where
    -- at most 19 symbols a position
    pub advance_within : (i : ℕ) {m : Model} → ModelInRange m → Within ModelInRange (19 * (16 - (kind_of f small i).first)) (advance table f small i m)
    unfolding advance
    advance_within i {m} w =
        let k = kind_of f small i in
        let p = coordinates i in
        within_more (omega arith) (within_bind {k = 0} (block_within table k.kind k.q0 k.q1 y k.first (get_or m.top p.x 0 + get_or m.left p.y 0) (sixteen_at m.coefficients (16 * i)) (kind_in f small i).1 (sixteen_in (16 * i) w.each)) (λ c h.
        ends (flagged_whole w k p c.end (m.empty && empty_of c) (length_placed m.coefficients (16 * i) (λ j. get_or c.values j (pos 0)) 16 ∙ w.long)
        (placed_each (16 * i) (λ j. get_or c.values j (pos 0)) 16 w.each (λ j. h.values.each.at j)))))

    -- the symbols of `more` blocks from block i on
    abbrev pub cost_from : (more i : ℕ) → ℕ
    cost_from zero i = 0
    cost_from (suc more) i = 19 * (16 - (kind_of f small i).first) + cost_from more (i + 1)

    pub blocks_within : (more i : ℕ) {m : Model} → ModelInRange m → Within ModelInRange (cost_from more i) (blocks_from table f small more i m)
    unfolding blocks_from
    blocks_within zero i w = ends w
    blocks_within (suc more) i w = within_bind (advance_within i w) (λ n h. blocks_within more (i + 1) h)

  -- no block has more than sixteen positions
  pub blocks_few : (small : Bool) (more i : ℕ) {m : Model} (s : List ℕ) (r : Reader) → ModelInRange m → count (blocks_from table f small more i m) s r ≤ 304 * more
  blocks_few small more i s r w = omega (arith, count_within s r (blocks_within small more i w), few more i)
    where
      few : (more i : ℕ) → cost_from small more i ≤ 304 * more
      few zero i = omega arith
      few (suc more) i = omega (arith, few more (i + 1))

  -- 24 blocks of sixteen positions where the modes are small; else the second-order block, sixteen of fifteen and eight of sixteen
  small_cost : cost_from true 24 0 ≡ 7296
  unfolding kind_of
  small_cost = refl

  large_cost : 304 + cost_from false 24 0 ≡ 7296
  unfolding kind_of
  large_cost = refl

  -- THE LAW of the grammar: what is given is whole, and at most 7296 symbols are asked
  pub residual_within : (small skip : Bool) {top left : List ℕ} → Flags top → Flags left → Within ModelInRange 7296 (residual_of table f small skip top left)
  unfolding residual_of
  residual_within small true t l = ends (initial_whole (flags_cleared small t) (flags_cleared small l))
  residual_within true false t l = within_more (at_most small_cost) (blocks_within true 24 0 (initial_whole t l))
  residual_within false false t l = within_more (at_most large_cost) (within_bind (second_within (initial_whole t l)) (λ m w. blocks_within false 24 0 w))

-- ---- the public call
-- what it asks of its arguments besides the reader
pub record Good (table top left : List ℕ) (old : List ℤ) : Type 0 where
  pub size : length table ≡ probability_count
  pub top_flags : Flags top
  pub left_flags : Flags left
  pub long : length old ≡ 384

-- what an answer, with the numbers behind it, says of the grammar
abbrev pub from_ended : (top left : List ℕ) → List ℤ → ReadOf Bool → Given Model
from_ended top left l (Ok (empty, r)) = given (record { top = top; left = left; coefficients = l; empty = empty }) r
from_ended top left l (Err e) = missing

abbrev pub from_residual : List ℤ → Residual → Given Model
from_residual l x = from_ended x.top x.left l x.answer

abbrev from_residual_called : ResidualCalled → Given Model
from_residual_called c = from_residual (macroblock_blocks c.out) c.answer

from_called : (old : List ℤ) (g : Given Model) → ((m : Model) (q : Reader) → g ≡ given m q → length m.coefficients ≡ 384) → g ≡ from_residual_called (to_residual_called old g)
from_called old (given m r) h = ap (λ (l : List ℤ). given (record { top = m.top; left = m.left; coefficients = l; empty = m.empty }) r) (sym (blocks_of_squares m.coefficients (h m r refl)))
from_called old missing h = refl

-- an answer that gives nothing is the zero answer, and leaves the numbers as they were
pub record Kept (x : Residual) (l old : List ℤ) : Type 0 where
  pub same : l ≡ old
  pub top : x.top ≡ replicate 9 0
  pub left : x.left ≡ replicate 9 0

module _ (s : List ℕ) (r : Reader) (table : List ℕ) (f : Factors) (small skip : Bool) (top left : List ℕ) (old : List ℤ) where
  -- with good arguments it is the inner definition
  pub decode_good : Valid s r → Good table top left old → residual_answer s r table f small skip top left old ≡ residual_call_of s r table f small skip top left old
  decode_good v g = decode_passed s r table f small skip top left old (both_true (valid_test s r v) (arguments_good table top left (length old) g.size g.top_flags g.left_flags g.long))

  -- how many symbols it read
  pub decode_reads_lem : Valid s r → Good table top left old → {n : ℕ} → n ≡ residual_reads s r table f small skip top left old → n ≡ count (residual_of table f small skip top left) s r
  decode_reads_lem v g e = e ∙ sym (reads_passed s r table f small skip top left old (both_true (valid_test s r v) (arguments_good table top left (length old) g.size g.top_flags g.left_flags g.long)))

  -- what was read from good arguments: whole, the reader in range and no earlier
  pub decode_ends : Valid s r → Good table top left old → Bytes s → Bytes table → {m : Model} {q : Reader} → run (residual_of table f small skip top left) s r ≡ given m q → ReadingLaws.ReadTo ModelInRange s r m q
  decode_ends v g y b e = run_valid (residual_within table f b small skip g.top_flags g.left_flags) y v e

  -- THE LAW for callers of `decode`: what it gave, with its numbers one block after the other
  pub decoded : Valid s r → Good table top left old → Bytes s → Bytes table → {x : Residual} {l : List ℤ} → record { answer = x; out = l } ≡ residual_call_of s r table f small skip top left old → run (residual_of table f small skip top left) s r ≡ from_residual (macroblock_blocks l) x
  unfolding residual_answer
  decoded v g y b e = from_called old (run (residual_of table f small skip top left) s r) (λ m q h. (decode_ends v g y b h).value.long) ∙ ap from_residual_called (decode_good v g ∙ sym e)

  pub decode_kept : (c : List ℤ) {x : Residual} {l : List ℤ} → record { answer = x; out = l } ≡ residual_call_of s r table f small skip top left old → from_residual c x ≡ missing → Kept x l old
  unfolding residual_call_of residual_answer
  decode_kept c {x} {l} e m = go (valid_of s r && residual_arguments table top left (length old)) refl
    where
      kept : {c : ResidualCalled} → record { answer = x; out = l } ≡ c → Kept c.answer c.out old → Kept x l old
      kept h k = record { same = ap (λ (a : ResidualCalled). a.out) h ∙ k.same; top = ap (λ (a : ResidualCalled). a.answer.top) h ∙ k.top; left = ap (λ (a : ResidualCalled). a.answer.left) h ∙ k.left }

      given_not : (g : Given Model) → from_residual c (to_residual_called old g).answer ≡ missing → Kept (to_residual_called old g).answer (to_residual_called old g).out old
      given_not (given n q) h = absurd (never_both refl h)
      given_not missing h = record { same = refl; top = refl; left = refl }

      go : (b : Bool) → valid_of s r && residual_arguments table top left (length old) ≡ b → Kept x l old
      go true k =
          let w : record { answer = x; out = l } ≡ to_residual_called old (run (residual_of table f small skip top left) s r) = e ∙ rw (k, residual_call_of) in
          kept w (given_not (run (residual_of table f small skip top left) s r) (sym (ap (λ (a : ResidualCalled). from_residual c a.answer) w) ∙ m))
      go false k = kept (e ∙ sym (decode_refused s r table f small skip top left old k refl)) (record { same = refl; top = refl; left = refl })

-- with a header, where it is fine and there is such a segment
pub header_good : (s : List ℕ) (r : Reader) (h : List ℤ) (segment : ℕ) (small skip : Bool) (top left : List ℕ) (old : List ℤ) → header_of h ≡ true → segment < 4 → residual_call_of s r (header_table h) (factors_of_of h segment) small skip top left old ≡ residual_by_header_of s r h segment small skip top left old
header_good s r h segment small skip top left old e l = header_passed s r h segment small skip top left old (both_true e (lt-ltb _ _ l))
