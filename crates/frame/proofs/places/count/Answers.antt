use Rattle.numbers.specs.Words.{ℕ, zero, suc, ◌*◌, ◌%◌, ◌^◌, ◌≤◌, ◌<◌, ◌≡◌, refl, arith, lit≤}
use Rattle.frame.proofs.places.count.Goals as goal

shifted : (p : ℕ) → p < 4 → (1 * 2 ^ p % 18446744073709551616 ≡ 2 ^ p) × (1 ≤ 1 * 2 ^ p % 18446744073709551616) × (1 * 2 ^ p % 18446744073709551616 ≤ 8)
shifted zero h = (refl, lit≤ tt, lit≤ tt)
shifted (suc zero) h = (refl, lit≤ tt, lit≤ tt)
shifted (suc (suc zero)) h = (refl, lit≤ tt, lit≤ tt)
shifted (suc (suc (suc zero))) h = (refl, lit≤ tt, lit≤ tt)
shifted (suc (suc (suc (suc p)))) h = absurd (omega arith)

pub returns : goal.returns
returns c = shifted _ c.requires
