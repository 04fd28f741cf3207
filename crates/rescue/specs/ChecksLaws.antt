-- The laws of the rescue call's checks: they are the picture call's, the fourth of which covers the marks too.
use Rattle.std.specs.Prelude.{◌*◌, ◌/◌, ◌≤◌, ◌<◌, ◌≡◌, ◌&&◌, ◌⊎◌, ◌∷◌}
use Rattle.numbers.specs.Words.{ℕ, arith, refl, sym, ◌∙◌, ap, Bool, true, false, inl, inr, ⊎_elim, eqb, eq-eqb, eqb-true, ne_eqb, [], Ok, Err}
use Rattle.header.specs.Header.{entries_of}
use Rattle.tile.specs.Tile.{sides_of, count_of, partitions_of, blocks_of}
use Rattle.lent.specs.declared.sizes.Sizes.{Sizes}
use Rattle.lent.specs.Memory.{mode_width}
use Rattle.choices.specs.declared.answer.Refusal.{Refusal}
use Rattle.choices.specs.declared.answer.Refusal.TheVariants as Refusal
use Rattle.choices.specs.Choices.{Call, Lengths, lengths_of, failed, refusal_of, refusal_number_of, told_by, checked_of}
use Rattle.choices.specs.ChoicesLaws.{refusal_most, fine_lengths, refused_partitions, checks_passed, check_fails, check_number}
use Rattle.rescue.specs.Rescue.{rescue_refusal_of, rescue_checked_of}

-- ---- five tests, and a sixth beside the fourth
module _ (a b c d e : Bool) where
  abbrev five : ℕ
  five = failed 1 (a ∷ b ∷ c ∷ d ∷ e ∷ [])

  abbrev beside : Bool → ℕ
  beside m = failed 1 (a ∷ b ∷ c ∷ (d && m) ∷ e ∷ [])

  beside_true : five ≡ beside true
  beside_true = ap (λ (x : Bool). failed 1 (a ∷ b ∷ c ∷ x ∷ e ∷ [])) (same d)
    where
      same : (x : Bool) → x ≡ x && true
      same true = refl
      same false = refl

beside_early : (a b c d e m : Bool) → (five a b c d e ≡ 0 → ⊥) → five a b c d e < 5 → five a b c d e ≡ beside a b c d e m
unfolding failed
beside_early false b c d e m x y = refl
beside_early true false c d e m x y = refl
beside_early true true false d e m x y = refl
beside_early true true true false e m x y = refl
beside_early true true true true true m x y = absurd (x refl)
beside_early true true true true false m x y = absurd (omega arith)

beside_false : (a b c d e : Bool) → (five a b c d e ≡ 0) ⊎ (5 ≤ five a b c d e) → 4 ≡ beside a b c d e false
unfolding failed
beside_false false b c d e h = absurd (⊎_elim (λ x. omega arith) (λ x. omega arith) h)
beside_false true false c d e h = absurd (⊎_elim (λ x. omega arith) (λ x. omega arith) h)
beside_false true true false d e h = absurd (⊎_elim (λ x. omega arith) (λ x. omega arith) h)
beside_false true true true false e h = refl
beside_false true true true true e h = refl

beside_none : (a b c d e m : Bool) → beside a b c d e m ≡ 0 → (five a b c d e ≡ 0) × (m ≡ true)
unfolding failed
beside_none false b c d e m h = absurd (omega arith)
beside_none true false c d e m h = absurd (omega arith)
beside_none true true false d e m h = absurd (omega arith)
beside_none true true true false e m h = absurd (omega arith)
beside_none true true true true e false h = absurd (omega arith)
beside_none true true true true true true h = (refl, refl)
beside_none true true true true false true h = absurd (omega arith)

module _ (t : Call) (z : Sizes) (marks : ℕ) where
  abbrev w : ℕ
  w = t.tile.width

  abbrev h : ℕ
  h = t.tile.height

  -- ---- THE LAWS: how the two calls' numbers go together
  -- 1 to 4 are the picture call's
  pub rescue_early : (refusal_of t z ≡ 0 → ⊥) → refusal_of t z < 5 → refusal_of t z ≡ rescue_refusal_of t z marks
  unfolding refusal_of rescue_refusal_of
  rescue_early = beside_early (sides_of w h) (count_of t.tile.count) (entries_of t.header) (lengths_of t z) (partitions_of t.bytes t.tile) (eqb marks (blocks_of w h))

  -- where those pass, marks of another length give 4
  pub rescue_wrong : (refusal_of t z ≡ 0) ⊎ (5 ≤ refusal_of t z) → (marks ≡ blocks_of w h → ⊥) → 4 ≡ rescue_refusal_of t z marks
  unfolding refusal_of rescue_refusal_of
  rescue_wrong x n = rw (ne_eqb marks (blocks_of w h) n) (beside_false (sides_of w h) (count_of t.tile.count) (entries_of t.header) (lengths_of t z) (partitions_of t.bytes t.tile) x)

  -- and marks of the right length change nothing
  pub rescue_right : marks ≡ blocks_of w h → refusal_of t z ≡ rescue_refusal_of t z marks
  unfolding refusal_of rescue_refusal_of
  rescue_right e = rw (eq-eqb marks (blocks_of w h) e) (beside_true (sides_of w h) (count_of t.tile.count) (entries_of t.header) (lengths_of t z) (partitions_of t.bytes t.tile))

  -- none is refused: nor does the picture call refuse one, and the marks are a byte a macroblock
  pub rescue_fine : rescue_refusal_of t z marks ≡ 0 → (refusal_of t z ≡ 0) × (marks ≡ blocks_of w h)
  unfolding refusal_of rescue_refusal_of
  rescue_fine e =
      let b = beside_none (sides_of w h) (count_of t.tile.count) (entries_of t.header) (lengths_of t z) (partitions_of t.bytes t.tile) (eqb marks (blocks_of w h)) e in
      (b.0, eqb-true marks (blocks_of w h) b.1)

  -- ---- as the code tries them
  -- past the fourth check the mode memory tells how many macroblocks there are
  by_modes : Lengths t z → z.modes / mode_width ≡ blocks_of w h
  by_modes l = let e : z.modes ≡ 20 * blocks_of w h = l.sizes.modes in omega (arith, e)

  past : (refusal_of t z ≡ 0) ⊎ (5 ≤ refusal_of t z) → z.modes / mode_width ≡ blocks_of w h
  past (inl e) = by_modes (fine_lengths t z e)
  past (inr e) = by_modes (refused_partitions t z (omega (arith, refusal_most t z))).3

  -- by name: none of the picture call's checks fails
  module _ {u : Unit {0}} (e : Ok u ≡ checked_of t z) where
    pub passed_wrong : (marks ≡ z.modes / mode_width → ⊥) → Err Refusal.Memory ≡ rescue_checked_of t z marks
    passed_wrong n = let x : (refusal_of t z ≡ 0) ⊎ (5 ≤ refusal_of t z) = inl (checks_passed t z e) in ap told_by (rescue_wrong x (λ f. n (f ∙ sym (past x))))

    pub passed_right : marks ≡ z.modes / mode_width → Ok u ≡ rescue_checked_of t z marks
    passed_right f = e ∙ ap told_by (rescue_right (f ∙ past (inl (checks_passed t z e))))

  -- one fails
  module _ {r : Refusal} (e : Err r ≡ checked_of t z) where
    pub refused_early : refusal_number_of r < 5 → Err r ≡ rescue_checked_of t z marks
    refused_early h = e ∙ ap told_by (rescue_early (check_fails t z e) (omega (arith, check_number t z e)))

    late : 5 ≤ refusal_number_of r → (refusal_of t z ≡ 0) ⊎ (5 ≤ refusal_of t z)
    late h = inr (omega (arith, check_number t z e))

    pub refused_wrong : 5 ≤ refusal_number_of r → (marks ≡ z.modes / mode_width → ⊥) → Err Refusal.Memory ≡ rescue_checked_of t z marks
    refused_wrong h n = ap told_by (rescue_wrong (late h) (λ f. n (f ∙ sym (past (late h)))))

    pub refused_right : 5 ≤ refusal_number_of r → marks ≡ z.modes / mode_width → Err r ≡ rescue_checked_of t z marks
    refused_right h f = e ∙ ap told_by (rescue_right (f ∙ past (late h)))

  module _ {n : ℕ} (e : n ≡ refusal_of t z) where
    at : (n ≡ 0) ⊎ (5 ≤ n) → (refusal_of t z ≡ 0) ⊎ (5 ≤ refusal_of t z)
    at (inl x) = inl (sym e ∙ x)
    at (inr x) = inr (omega arith)

    pub tried_early : (n ≡ 0 → ⊥) → n < 5 → n ≡ rescue_refusal_of t z marks
    tried_early x y = e ∙ rescue_early (λ f. x (e ∙ f)) (omega arith)

    pub tried_wrong : (n ≡ 0) ⊎ (5 ≤ n) → (marks ≡ z.modes / mode_width → ⊥) → 4 ≡ rescue_refusal_of t z marks
    tried_wrong x n = rescue_wrong (at x) (λ f. n (f ∙ sym (past (at x))))

    pub tried_right : (n ≡ 0) ⊎ (5 ≤ n) → marks ≡ z.modes / mode_width → n ≡ rescue_refusal_of t z marks
    tried_right x f = e ∙ rescue_right (f ∙ past (at x))
