use Rattle.numbers.specs.Words.{ℕ, zero, suc, ◌+◌, ◌≤◌, ◌<◌, arith, ◌≡◌, false, not, eqb, ne_eqb, bool_byte}
use Rattle.recode.proofs.block.context_at.Goals as goal

-- one flag, 1 where it is on
on : (n : ℕ) {r : ℕ} → r ≡ bool_byte (not (eqb n 0)) → (n ≤ 1 → r ≡ n) × (r < 2)
on zero e = (λ h. e, omega arith)
on (suc n) {r} e =
    let z : eqb (suc n) 0 ≡ false = ne_eqb _ _ (λ h. omega arith) in
    let f : r ≡ 1 = rw z at e in
    (λ h. omega arith, omega arith)

pub returns : goal.returns
returns c =
    let a = on _ c.from.ensures in
    let b = on _ c.from-2.ensures in
    (λ h k. (λ i. (a.0 h) i + (b.0 k) i), omega arith)
