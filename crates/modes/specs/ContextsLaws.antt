-- The laws of contexts.
use Rattle.std.specs.Prelude.{◌+◌, ◌≤◌, ◌<◌, ◌≡◌, ◌&&◌}
use Rattle.numbers.specs.Words.{ℕ, arith, refl, sym, ◌∙◌, Bool, true, false, inl, inr, ltb, lt_or, never, not_so, both_left, both_right, both_true, lt-ltb, ltb-true, List, length, get_or}
use Rattle.modes.specs.Modes.{each_below_of, contexts_of, Context, context_fine_of}
use Rattle.modes.specs.ModesLaws.{each_at, each_all}

-- the modes of two contexts in range are what the modes' call asks
pub contexts_fine_lem : (a b : Context) → context_fine_of a ≡ true → context_fine_of b ≡ true → contexts_of a.modes b.modes ≡ true
contexts_fine_lem a b e f = both_true {a = each_below_of 10 a.modes} {b = each_below_of 10 b.modes} (both_left _ (each_below_of 2 a.flags) e) (both_left _ (each_below_of 2 b.flags) f)

-- the test of all, one after the other and to the end
module _ (m : ℕ) (l : List ℕ) where
  pub record Tested (i : ℕ) (b : Bool) : Type 0 where
    pub passed : i ≤ length l
    pub so : b ≡ true → (k : ℕ) → k < i → get_or l k 0 < m
    pub not : b ≡ false → each_below_of m l ≡ false

  pub tested_start : Tested 0 true
  tested_start = record { passed = omega arith; so = λ e k h. absurd (omega arith); not = λ e. absurd (never refl e) }

  pub tested_next : {i : ℕ} {b : Bool} → i < length l → Tested i b → Tested (i + 1) (ltb (get_or l i 0) m && b)
  tested_next {i} {b} h c =
      record {
        passed = omega arith;
        so = λ e k g. elim (lt_or k i) [
          | inl d ↦ c.so (both_right (ltb (get_or l i 0) m) b e) k d
          | inr d ↦ let z : k ≡ i = omega arith in rw z (ltb-true _ _ (both_left (ltb (get_or l i 0) m) b e))
        ];
        not = here (ltb (get_or l i 0) m) refl;
      }
    where
      here : (x : Bool) → ltb (get_or l i 0) m ≡ x → x && b ≡ false → each_below_of m l ≡ false
      here true e f = c.not f
      here false e f = sym (not_so (each_below_of m l) (λ g. never (lt-ltb (get_or l i 0) m (each_at m l g i h)) e))

  pub tested_end : {i : ℕ} {b : Bool} → length l ≤ i → Tested i b → b ≡ each_below_of m l
  tested_end {i} {b} h c = go b refl
    where
      go : (x : Bool) → b ≡ x → b ≡ each_below_of m l
      go true e = e ∙ sym (each_all m l (λ k g. c.so e k (omega arith)))
      go false e = e ∙ sym (c.not e)
