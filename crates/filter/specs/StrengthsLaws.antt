-- The laws of strengths: each number's cases, their ranges, the answer with good arguments.
use Rattle.std.specs.Prelude.{◌+◌, ◌-◌, ◌/◌, ◌≤◌, ◌<◌, ◌≡◌}
use Rattle.numbers.specs.Words.{ℕ, min, max, arith, sym, Bool, true, ⊎_elim, lt_or, eq_or, both_true, eq-eqb, le-leb, le-ltb, lt-leb, lt-ltb, ne_eqb, bit_of, bit_small, Some, None}
use Rattle.filter.specs.Strengths.{Strength, slowed, inner_of, threshold_of, no_strength, strength_of_of, strength_fine_of, strength_answer}

-- ---- the interior limit
module _ (level sharp : ℕ) where
  pub inner_flat : sharp ≡ 0 → inner_of level sharp ≡ max level 1
  unfolding inner_of
  inner_flat e = rw (le-ltb 0 sharp (omega arith), inner_of)

  half : sharp ≤ 4 → slowed level sharp ≡ level / 2
  unfolding slowed
  half k = rw (le-ltb 4 sharp k, slowed)

  quarter : 4 < sharp → slowed level sharp ≡ level / 4
  unfolding slowed
  quarter h = rw (lt-ltb 4 sharp h, slowed)

  pub inner_half : 0 < sharp → sharp ≤ 4 → inner_of level sharp ≡ max (min (level / 2) (9 - sharp)) 1
  unfolding inner_of
  inner_half h k = let e : slowed level sharp ≡ level / 2 = half k in rw (lt-ltb 0 sharp h, inner_of, e)

  pub inner_quarter : 4 < sharp → inner_of level sharp ≡ max (min (level / 4) (9 - sharp)) 1
  unfolding inner_of
  inner_quarter h = let k : 0 < sharp = omega arith in let e : slowed level sharp ≡ level / 4 = quarter h in rw (lt-ltb 0 sharp k, inner_of, e)

  pub inner_in : (1 ≤ inner_of level sharp) × (inner_of level sharp ≤ max level 1)
  inner_in =
      ⊎_elim
      (λ h. rw (inner_quarter h) (omega arith, omega arith))
      (λ k. ⊎_elim (λ h. rw (inner_half h k) (omega arith, omega arith)) (λ h. rw (inner_flat (omega arith)) (omega arith, omega arith)) (lt_or 0 sharp))
      (lt_or 4 sharp)

-- as the code's contract says it
pub inner_is : (level sharp : ℕ) {r : ℕ} → r ≡ inner_of level sharp → (r ≡ inner_of level sharp) × ((1 ≤ r) × (r ≤ max level 1))
inner_is level sharp e = let i = inner_in level sharp in (e, (rw e i.0, rw e i.1))

-- from sharpness 9 on nothing is left but the 1
pub sharpest : (level sharp : ℕ) → 9 ≤ sharp → 1 ≡ inner_of level sharp
sharpest level sharp h = rw (inner_quarter level sharp (omega arith)) (omega arith)

-- ---- the threshold
module _ (level : ℕ) where
  pub threshold_two : 40 ≤ level → threshold_of level ≡ 2
  unfolding threshold_of
  threshold_two h = rw (le-leb _ _ h, threshold_of)

  pub threshold_one : level < 40 → 15 ≤ level → threshold_of level ≡ 1
  unfolding threshold_of
  threshold_one h k = rw (lt-leb _ _ h, le-leb _ _ k, threshold_of)

  pub threshold_none : level < 15 → threshold_of level ≡ 0
  unfolding threshold_of
  threshold_none h = let k : level < 40 = omega arith in rw (lt-leb _ _ k, lt-leb _ _ h, threshold_of)

-- ---- the four numbers
module _ (level sharp : ℕ) (inside : Bool) where
  pub strength_none : level ≡ 0 → strength_of_of level sharp inside ≡ no_strength
  unfolding strength_of_of
  strength_none e = rw (eq-eqb _ _ e, strength_of_of)

  pub strength_some : (level ≡ 0 → ⊥) → strength_of_of level sharp inside ≡ record { limit = level + level + inner_of level sharp; inner = inner_of level sharp; threshold = threshold_of level; inside = bit_of inside }
  unfolding strength_of_of
  strength_some e = rw (ne_eqb _ _ e, strength_of_of)

  pub four_are : (level ≡ 0 → ⊥) → {a b c : ℕ} → a ≡ inner_of level sharp → b ≡ threshold_of level → c ≡ bit_of inside → ◌≡◌ {A = Strength} (record { limit = level + level + a; inner = a; threshold = b; inside = c }) (strength_of_of level sharp inside)
  four_are e f g h = rw (f, g, h) (sym (strength_some e))

  -- a limit is at most 189
  pub limit_most : level ≤ 63 → (strength_of_of level sharp inside).limit ≤ 189
  limit_most h =
      ⊎_elim
      (λ e. rw (strength_none e) (omega arith))
      (λ e. rw (strength_some e) (omega (arith, (inner_in level sharp).1)))
      (eq_or level 0)

  -- ---- the public call
  pub strength_good : level ≤ 63 → strength_answer level sharp inside ≡ Some (strength_of_of level sharp inside)
  unfolding strength_answer
  strength_good h = rw (le-leb _ _ h, strength_answer)

  pub strength_refused : 63 < level → None ≡ strength_answer level sharp inside
  unfolding strength_answer
  strength_refused h = rw (lt-leb _ _ h, strength_answer)

  pub strength_is : level ≤ 63 → {t : Strength} → Some t ≡ strength_answer level sharp inside → t ≡ strength_of_of level sharp inside
  strength_is h e = let k = strength_good h in cc

-- ---- the strengths that are made are in range
threshold_most : (level : ℕ) → threshold_of level ≤ 2
threshold_most level =
    ⊎_elim
    (λ h. ⊎_elim (λ k. rw (threshold_none level k) (omega arith)) (λ k. rw (threshold_one level h k) (omega arith)) (lt_or level 15))
    (λ h. rw (threshold_two level h) (omega arith))
    (lt_or level 40)

pub strength_fine_lem : (level sharp : ℕ) (inside : Bool) → level ≤ 63 → strength_fine_of (strength_of_of level sharp inside) ≡ true
strength_fine_lem level sharp inside h =
    ⊎_elim
    (λ e. rw (strength_none level sharp inside e))
    (λ e. rw (strength_some level sharp inside e)
    (both_true
    (both_true (both_true (le-leb (level + level + inner_of level sharp) 189 (omega (arith, (inner_in level sharp).1))) (le-leb (inner_of level sharp) 63 (omega (arith, (inner_in level sharp).1)))) (le-leb (threshold_of level) 2 (threshold_most level)))
    (le-leb (bit_of inside) 1 (omega (arith, bit_small inside)))))
    (eq_or level 0)
