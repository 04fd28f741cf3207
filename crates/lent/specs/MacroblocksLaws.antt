-- The laws of the records of macroblocks: what was written is read back, and the other records stay.
use Rattle.std.specs.Prelude.{◌+◌, ◌<◌, ◌≡◌, ◌&&◌, ◌∷◌, ◌++◌}
use Rattle.numbers.specs.Words.{Ok, ℕ, suc, refl, sym, ◌∙◌, ap, Bool, true, false, ltb, lit<, both_left, both_true, lt-ltb, bit_of, List, [], length, get_or, get_or-append, length-append, get_or-append-add, get_or-append_seam, copied}
use Rattle.modes.specs.Modes.{zeros, Macroblock, kinds_of}
use Rattle.modes.specs.ModesLaws.{InRange}
use Rattle.modes.specs.declared.answers.Kinds.{Kinds}
use Rattle.filter.specs.declared.strengths.Strength.{Strength}
use Rattle.filter.specs.Strengths.{strength_fine_of}
use Rattle.lent.specs.Memory.{StrengthRecord, records_in, FoundRecord, mode_width, mode_record, is_on, kinds_in, modes_in, kinds_at, modes_at, mode_set, kinds_fine_of, mode_found, strength_width, strength_record, strength_in, strength_at_of, strength_set, strength_found}
use Rattle.lent.specs.RecordsLaws.{copied_middle, bytes_are, record_back, record_other, record_set_length, read_good}

-- ---- modes
-- as the code builds them: the sixteen stored between the other bytes
pub mode_bytes : (a b c d : ℕ) (modes : List ℕ) → length modes ≡ 16 → copied (a ∷ b ∷ c ∷ (zeros ++ (d ∷ []))) 3 modes 0 (length modes) ≡ a ∷ b ∷ c ∷ (modes ++ (d ∷ []))
mode_bytes a b c d modes e = copied_middle (a ∷ b ∷ c ∷ []) zeros modes (d ∷ []) (sym e)

module _ (k : Kinds) (modes : List ℕ) (e : length modes ≡ 16) where
  mode_length : length (mode_record k modes) ≡ 20
  mode_length = ap (λ (n : ℕ). suc (suc (suc n))) (length-append modes (k.chroma ∷ []) ∙ ap (λ (n : ℕ). n + 1) e)

  on_back : (b : Bool) → is_on (bit_of b) ≡ b
  on_back true = refl
  on_back false = refl

  -- their bytes say which they are
  kinds_in_lem : kinds_in (mode_record k modes) ≡ k
  kinds_in_lem =
      let d : get_or (mode_record k modes) 19 0 ≡ k.chroma = ap (λ (n : ℕ). get_or (modes ++ (k.chroma ∷ [])) n 0) {x = 16} {y = length modes} (sym e) ∙ get_or-append_seam modes k.chroma [] 0 in
      rw (on_back k.skip, on_back k.small, d)

  modes_in_lem : modes_in (mode_record k modes) ≡ modes
  modes_in_lem = bytes_are 3 16 (mode_record k modes) modes e (λ j h. sym (get_or-append-add (k.segment ∷ bit_of k.skip ∷ bit_of k.small ∷ []) (modes ++ (k.chroma ∷ [])) j 0 ∙ get_or-append modes (k.chroma ∷ []) 0 j (rw e h)))

module _ (mem : List ℕ) (i : ℕ) (k : Kinds) (modes : List ℕ) where
  pub mode_set_length : length (mode_set mem i k modes) ≡ length mem
  mode_set_length = record_set_length mode_width mem i (mode_record k modes)

  -- what was written is read back
  module _ (h : i < records_in mode_width mem) (e : length modes ≡ 16) where
    pub kinds_back : kinds_at (mode_set mem i k modes) i ≡ k
    kinds_back = ap kinds_in (record_back mode_width mem i (mode_record k modes) (lit< tt) h (mode_length k modes e)) ∙ kinds_in_lem k modes e

    pub modes_back : modes_at (mode_set mem i k modes) i ≡ modes
    modes_back = ap modes_in (record_back mode_width mem i (mode_record k modes) (lit< tt) h (mode_length k modes e)) ∙ modes_in_lem k modes e

  -- the other records stay
  module _ (o : ℕ) (n : o ≡ i → ⊥) where
    pub kinds_other : kinds_at (mode_set mem i k modes) o ≡ kinds_at mem o
    kinds_other = ap kinds_in (record_other mode_width mem i (mode_record k modes) o n)

    pub modes_other : modes_at (mode_set mem i k modes) o ≡ modes_at mem o
    modes_other = ap modes_in (record_other mode_width mem i (mode_record k modes) o n)

pub mode_read : (mem : List ℕ) (i : ℕ) → i < records_in mode_width mem → mode_found mem i ≡ record { answer = Ok tt; kinds = kinds_at mem i; modes = modes_at mem i }
mode_read mem i h = λ o. let r = read_good mode_width mem i h o in record { answer = r.answer; kinds = kinds_in r.bytes; modes = modes_in r.bytes }

-- modes in range can be written
pub kinds_fine_lem : (m : Macroblock) → InRange m → kinds_fine_of (kinds_of m) ≡ true
kinds_fine_lem m i = both_true (lt-ltb m.segment 4 i.segment) (lt-ltb m.chroma 4 i.chroma)

-- ---- strengths
module _ (mem : List ℕ) (i : ℕ) (t : Strength) (k : Kinds) where
  pub strength_set_length : length (strength_set mem i t k) ≡ length mem
  strength_set_length = record_set_length strength_width mem i (strength_record t k)

  -- what was written is read back
  pub strength_back : i < records_in strength_width mem → strength_at_of (strength_set mem i t k) i ≡ t
  strength_back h = ap strength_in (record_back strength_width mem i (strength_record t k) (lit< tt) h refl)

  -- the other records stay
  pub strength_other : (o : ℕ) → (o ≡ i → ⊥) → strength_at_of (strength_set mem i t k) o ≡ strength_at_of mem o
  strength_other o n = ap strength_in (record_other strength_width mem i (strength_record t k) o n)

-- strengths in range can be written
pub strength_fine_lem : (t : Strength) (m : Macroblock) → strength_fine_of t ≡ true → kinds_fine_of (kinds_of m) ≡ true → strength_fine_of t && ltb m.segment 4 ≡ true
strength_fine_lem t m e f = both_true e (both_left (ltb m.segment 4) (ltb m.chroma 4) f)

-- the strengths as a caller finds them, whatever stands behind them in the record
pub strength_is : (mem : List ℕ) (i : ℕ) {r : StrengthRecord} → r ≡ strength_found mem i → i < records_in strength_width mem → r.strength ≡ strength_at_of mem i
strength_is mem i e h = ap (λ (r : StrengthRecord). r.strength) e ∙ ap (λ (r : FoundRecord). strength_in r.bytes) (read_good strength_width mem i h)
