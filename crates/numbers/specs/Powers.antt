-- Products and powers of two: several doublings at once, and remainders of products.
use Rattle.std.specs.Prelude.{ℕ, suc, zero, ◌+◌, ◌*◌, ◌/◌, ◌%◌, ◌≤◌, ◌<◌, ◌^◌, ◌≡◌}
use Rattle.std.proofs.Common.{sym, ◌∙◌, ap, arith, mul-one, mul_assoc, mul_comm, add-mul, mul-le-mul_left, pow-add, pow_pos, pow_mono}
use Rattle.std.proofs.Math.Nat.{pow-succ', mod-add-div', add-mul-mod_self_right}

-- one doubling, then k, are k + 1
pub twice : (x k : ℕ) → x * 2 * 2 ^ k ≡ x * 2 ^ suc k
twice x k = rw (mul_assoc x 2 (2 ^ k), ← pow-succ' 2 k)

-- i doublings, then j, are k where i + j is k
pub doubled : (x i j k : ℕ) → i + j ≡ k → x * 2 ^ i * 2 ^ j ≡ x * 2 ^ k
doubled x i j k e =
    mul_assoc x (2 ^ i) (2 ^ j)
    ∙ ap (λ (y : ℕ). x * y) (sym (pow-add 2 i j) ∙ ap (λ (y : ℕ). 2 ^ y) e)

-- fewer doublings give no more
pub doubled_less : (x i k b : ℕ) → i ≤ k → x * 2 ^ k < b → x * 2 ^ i < b
doubled_less x i k b l h = omega (arith, mul-le-mul_left x (pow_mono {i = i} {j = k} l))

-- what is small after a doubling was half as small before it
pub halved : (x k b : ℕ) → x * 2 ^ suc k < b + b → x < b
halved x k b h = omega (arith, twice x k, mul-le-mul_left (x * 2) (pow_pos k), mul-one (x * 2))

-- a remainder taken before a product changes no remainder after it
pub mod_scale : (a b m : ℕ) → a % m * b % m ≡ a * b % m
mod_scale a b m =
    sym
    (ap (λ (x : ℕ). x * b % m) (sym (mod-add-div' a m))
    ∙ ap (λ (x : ℕ). x % m)
    (add-mul (a % m) (a / m * m) b
    ∙ ap (λ (y : ℕ). a % m * b + y)
    (mul_assoc (a / m) m b ∙ ap (λ (z : ℕ). a / m * z) (mul_comm m b) ∙ sym (mul_assoc (a / m) b m)))
    ∙ add-mul-mod_self_right (a % m * b) (a / m * b) m)

-- a statement about every number below eight
pub cases8 : (P : ℕ → Type 0) → P 0 → P 1 → P 2 → P 3 → P 4 → P 5 → P 6 → P 7 → (n : ℕ) → n < 8 → P n
cases8 P a b c d e f g h zero l = a
cases8 P a b c d e f g h (suc zero) l = b
cases8 P a b c d e f g h (suc (suc zero)) l = c
cases8 P a b c d e f g h (suc (suc (suc zero))) l = d
cases8 P a b c d e f g h (suc (suc (suc (suc zero)))) l = e
cases8 P a b c d e f g h (suc (suc (suc (suc (suc zero))))) l = f
cases8 P a b c d e f g h (suc (suc (suc (suc (suc (suc zero)))))) l = g
cases8 P a b c d e f g h (suc (suc (suc (suc (suc (suc (suc zero))))))) l = h
cases8 P a b c d e f g h (suc (suc (suc (suc (suc (suc (suc (suc n)))))))) l = absurd (omega arith)
