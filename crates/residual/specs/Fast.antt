-- A block over a wide reader: what its calls promise. Its sixteen numbers stand in a longer list, from a place on, each a step after the last.
use Rattle.std.specs.Prelude.{◌+◌, ◌-◌, ◌*◌, ◌≤◌, ◌<◌, ◌≡◌, ◌∷◌}
use Rattle.numbers.specs.Words.{ℕ, suc, Bool, true, false, List, [], length, get_or, build, stored_at, ℤ, pos}
use Rattle.reader.specs.Reading.{Reading, ◌>>=◌, done}
use Rattle.wide.specs.Counted.{counted}
use Rattle.wide.specs.WideRuns.{WideReads, Going}
use Rattle.wide.specs.declared.wide.Wide.{Wide}
use Rattle.coefficients.specs.Block.{Coefficients, magnitude, probability_place, context_after}
use Rattle.reader.specs.Token.{token_tree, eleven_at}
use Rattle.reader.specs.Trees.{walk}
use Rattle.reader.specs.declared.boolean.Reader.{Reader}
pub use Rattle.residual.specs.declared.fast.WideBlock.{WideBlock}
use Rattle.residual.specs.declared.fast.Number.{Number}
use Rattle.coefficients.specs.BlockLaws.{rest_of}
use Rattle.residual.specs.declared.fast.Zeros.{Zeros}

-- ---- sixteen numbers a step apart: those at the places at, at + step, at + 2 * step, ..
unfoldable pub spots_of : List ℤ → (at step : ℕ) → List ℤ
spots_of l at step = build 16 (λ j. get_or l (at + step * j) (pos 0))

-- sixteen others put there
abbrev pub strewn : List ℤ → (at step : ℕ) → (c : List ℤ) → List ℤ
strewn l at step c = stored_at l (λ j. at + step * j) (λ j. get_or c j (pos 0)) 16

-- ---- the call: at most 1216 bytes are read, and the list changes in its sixteen places alone
pub record BlockCoded (s : List ℕ) (w : Wide) (g : List ℤ → Reading Coefficients) (at step : ℕ) (old new : List ℤ) (q : WideBlock) : Type 0 where
  pub read : WideReads s 0 1216 (counted 0 (g (spots_of old at step))) w (record { end = q.end; values = spots_of new at step }, q.reads) q.next
  pub kept : new ≡ strewn old at step (spots_of new at step)

-- x with the sign b, raised so that it stays above 0
abbrev pub raised_of : Bool → ℕ → ℕ
raised_of true x = 268468224 - x
raised_of false x = 268468224 + x

-- where the probabilities of the position after each stand, for context 0
unfoldable pub places_after_of : ℕ → List ℕ
places_after_of kind = build 16 (λ n. probability_place kind (n + 1) 0)

-- a token's symbols and its extra bits
unfoldable pub token_symbols : List ℕ
token_symbols = 0 ∷ 0 ∷ 3 ∷ 5 ∷ 6 ∷ 6 ∷ 7 ∷ 8 ∷ 10 ∷ 11 ∷ 12 ∷ 18 ∷ []

-- a token that is neither 0 nor the end of a block: what it leaves of a walk that stood at node 2
pub record Counting (s ps : List ℕ) (w : Wide) (q : Number) : Type 0 where
  pub ctx : ℕ
  pub few : ctx < 3
  pub place : q.near ≡ ctx * 11
  pub small : q.value ≤ 2114
  pub least : q.reads ≤ 18
  pub leads : (E : (Coefficients × ℕ) × Reader) (lim n c m : ℕ) (f : ℕ → Reading Coefficients) (h : ℕ → ℕ → Reading Coefficients) → ((t : ℕ) → 2 ≤ t → f t ≡ (magnitude t >>= h (context_after t))) → Going s E lim 18 (n + 72) (counted (suc (suc c)) (walk (suc (suc (suc (suc (suc m))))) ps token_tree 2 >>= f)) w → Going s E lim 8 n (counted (c + q.reads) (h ctx q.value)) q.next × (q.next.top < 254)

-- ---- a run of zeros
module _ (s table : List ℕ) (kind q0 q1 : ℕ) (values : List ℤ) (E : (Coefficients × ℕ) × Reader) (lim : ℕ) where
  -- at node 1 of position n, whose probabilities stand at p, c symbols in; at node 2; and after the last position
  pub record AtOne (n p c : ℕ) (w : Wide) : Type 0 where
    pub fuel : ℕ
    pub going : Going s E lim 25 (76 * (15 - n) + 72) (counted c (walk (suc (suc (suc (suc (suc (suc fuel)))))) (eleven_at table p) token_tree 1 >>= rest_of table kind q0 q1 (15 - n) n values)) w

  pub record AtTwo (n p c : ℕ) (w : Wide) : Type 0 where
    pub fuel : ℕ
    pub going : Going s E lim 18 (76 * (15 - n) + 72) (counted c (walk (suc (suc (suc (suc (suc fuel))))) (eleven_at table p) token_tree 2 >>= rest_of table kind q0 q1 (15 - n) n values)) w

  abbrev pub AtEnd : ℕ → Wide → Type 0
  AtEnd c w = Going s E lim 0 0 (counted c (done (record { end = 16; values = values }))) w

module _ (s table : List ℕ) (kind n p : ℕ) (w : Wide) where
  -- it stops at a number, or behind the last position
  pub record Zeroed (q : Zeros) : Type 0 where
    pub low : n ≤ q.n
    pub high : q.n ≤ 16
    pub inside : q.n < 16 → q.place + 11 ≤ length table
    pub ahead : q.n < 16 → q.ahead ≡ get_or (places_after_of kind) q.n 0
    pub number : (q0 q1 : ℕ) (values : List ℤ) (E : (Coefficients × ℕ) × Reader) (lim c : ℕ) → q.n < 16 → AtOne s table kind q0 q1 values E lim n p c w → AtTwo s table kind q0 q1 values E lim q.n q.place (c + (q.n - n) + 1) q.next
    pub ended : (q0 q1 : ℕ) (values : List ℤ) (E : (Coefficients × ℕ) × Reader) (lim c : ℕ) → q.n ≡ 16 → AtOne s table kind q0 q1 values E lim n p c w → AtEnd s table kind q0 q1 values E lim (c + (16 - n)) q.next
