use Rattle.numbers.specs.Words.{ℕ, suc, ◌+◌, ◌-◌, ◌*◌, ◌^◌, ◌≤◌, ◌<◌, mul-le-mul_right, mul-lt-mul_of_pos_right, arith, pow-add, pow_mono, pow_pos, count_leading_zeros, leading_top, ◌≡◌, sym, ◌∙◌, ap, subst, ⊎_elim, lt_or}
use Rattle.reader.proofs.boolean.doublings.Goals as goal

abbrev Top : ℕ → ℕ → Type 0
Top a z = (24 ≤ z) × ((z - 24 < 8) × (128 ≤ a * 2 ^ (z - 24)) × (a * 2 ^ (z - 24) < 256))

by_top : (a z j : ℕ) → j < 8 → z + suc j ≡ 32 → 2 ^ j ≤ a → a < 2 ^ suc j → Top a z
by_top a z j l e lo hi =
    let p : j + (z - 24) ≡ 7 = omega arith in
    let q : suc j + (z - 24) ≡ 8 = omega arith in (
      omega arith,
      (
        omega arith,
        subst (λ (x : ℕ). x ≤ a * 2 ^ (z - 24)) (sym (pow-add 2 j (z - 24)) ∙ ap (λ (x : ℕ). 2 ^ x) p) (mul-le-mul_right (2 ^ (z - 24)) lo),
        subst (λ (x : ℕ). a * 2 ^ (z - 24) < x) (sym (pow-add 2 (suc j) (z - 24)) ∙ ap (λ (x : ℕ). 2 ^ x) q) (mul-lt-mul_of_pos_right hi (pow_pos (z - 24))),
      ),
    )

top : (a : ℕ) → 1 ≤ a → a < 256 → Top a (count_leading_zeros 32 a)
top a l h =
    let t = leading_top 32 a l (omega arith) in
    ⊎_elim (λ j. by_top a (count_leading_zeros 32 a) t.0 j t.1 t.2 t.3) (λ j. absurd (omega (arith, pow_mono {i = 8} {j = t.0} j))) (lt_or t.0 8)

pub overflow_sub-result : goal.overflow_sub-result
overflow_sub-result c = (top c.args.range c.requires.0 c.requires.1).0

pub returns : goal.returns
returns c = (top c.args.range c.requires.0 c.requires.1).1
