-- `whole` meets its contract: a number has k zeros at its end exactly where 2^k divides it.
use Rattle.numbers.specs.Words.{ℕ, zero, suc, ◌+◌, ◌*◌, ◌/◌, ◌%◌, ◌^◌, ◌≤◌, ◌<◌, pow-suc, arith, mod-mul, pow_pos, count_trailing_zeros, ◌≡◌, sym, ◌∙◌, ap, ⊎_elim, eqb, leb, lit<, lt_or, eq_or, eq-eqb, le-leb, lt-leb, ne_eqb}
use Rattle.reader.proofs.boolean.whole.Goals as goal

halves : (n j : ℕ) → n % 2 ^ suc j ≡ n / 2 % 2 ^ j * 2 + n % 2
halves n j = ap (λ (x : ℕ). n % x) (pow-suc 2 j) ∙ mod-mul n (pow_pos j) (lit< tt)

divides : (k j n : ℕ) → j ≤ count_trailing_zeros k n → n % 2 ^ j ≡ 0
unfolding count_trailing_zeros
divides k zero n h = omega arith
divides zero (suc j) n h = absurd (omega arith)
divides (suc k) (suc j) n h =
    ⊎_elim
    (λ (e : n % 2 ≡ 0). let i = divides k j (n / 2) (let g = rw e at h in omega arith) in omega (arith, halves n j))
    (λ (e : n % 2 ≡ 0 → ⊥). let o : n % 2 ≡ 1 = omega arith in let g = rw o at h in absurd (omega arith))
    (eq_or (n % 2) 0)

divided : (k j n : ℕ) → j ≤ k → n % 2 ^ j ≡ 0 → j ≤ count_trailing_zeros k n
unfolding count_trailing_zeros
divided k zero n l h = omega arith
divided zero (suc j) n l h = absurd (omega arith)
divided (suc k) (suc j) n l h =
    let e : n % 2 ≡ 0 = omega (arith, halves n j) in
    let i = divided k j (n / 2) (omega arith) (omega (arith, halves n j)) in
    rw e (omega arith)

zeros_at_end : (j n : ℕ) → j < 8 → leb j (count_trailing_zeros 32 n) ≡ eqb (n % 2 ^ j) 0
zeros_at_end j n l =
    ⊎_elim
    (λ (h : count_trailing_zeros 32 n < j). lt-leb _ _ h ∙ sym (ne_eqb _ _ (λ e. let g = divided 32 j n (omega arith) e in omega arith)))
    (λ (h : j ≤ count_trailing_zeros 32 n). le-leb _ _ h ∙ sym (eq-eqb _ _ (divides 32 j n h)))
    (lt_or (count_trailing_zeros 32 n) j)

pub returns : goal.returns
returns c l = zeros_at_end c.args.shifts c.args.window l
