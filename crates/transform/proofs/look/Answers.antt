-- `look` meets its contract: what the loop holds is true of the coefficients passed.
use Rattle.numbers.specs.Words.{ℕ, ◌+◌, ◌^◌, ◌<◌, add-one, ℕ_discrete, arith, ◌≡◌, refl, ◌∙◌, ap, Bool, true, false, ◌&&◌, ◌||◌, ◌⊎◌, inl, inr, ⊎_elim, eqb, lit<, both_left, both_right, eqb-true, List, all_below, ℤ, pos, negsuc, le_z, mag, back, same_bits, w32, of_z}
use Rattle.transform.specs.Transform.{at, fits16, block_fits}
use Rattle.transform.specs.Pieces.{PlainTo}
use Rattle.transform.proofs.look.Goals as goal

fits_next : (c : List ℤ) (k : ℕ) {x : ℤ} {f : Bool} → x ≡ at c k → f ≡ all_below k (λ (i : ℕ). fits16 (at c i))
    → (le_z (negsuc 32767) x && le_z x (pos 32767)) && f ≡ all_below (k + 1) (λ (i : ℕ). fits16 (at c i))
fits_next c k e h = rw (e, h, add-one)

either : (a b : Bool) → a || b ≡ true → (a ≡ true) ⊎ (b ≡ true)
either true b e = inl refl
either false b e = inr e

plain_next : (c : List ℤ) (k : ℕ) → (k ≡ 0) ⊎ (at c k ≡ pos 0) → PlainTo k c → PlainTo (k + 1) c
plain_next c k o h = record { zero = go }
  where
    go : (i : ℕ) → 0 < i → i < k + 1 → at c i ≡ pos 0
    go i p q = elim (ℕ_discrete i k) [
      | yes e ↦ ⊎_elim (λ z. absurd (omega arith)) (λ z. ap (at c) e ∙ z) o
      | no e ↦ h.zero i p (omega arith)
    ]

-- what the test of a turn says of the coefficient
told : (c : List ℤ) (k : ℕ) → mag (at c k) < 2 ^ 31 → (eqb k 0 || eqb (of_z w32 (at c k)) 0) ≡ true → (k ≡ 0) ⊎ (at c k ≡ pos 0)
told c k f e =
    ⊎_elim (λ t. inl (eqb-true k 0 t)) (λ t. inr (same_bits w32 (record { sfits = f }) (record { sfits = lit< tt }) (eqb-true (of_z w32 (at c k)) 0 t)))
    (either (eqb k 0) (eqb (of_z w32 (at c k)) 0) e)

pub loop-k-init : goal.loop-k-init
loop-k-init c = (omega arith, refl, λ e. record { zero = λ k p q. absurd (omega arith) })

pub loop-k-preserved : goal.loop-k-preserved
loop-k-preserved c =
    let cs : List ℤ = c.args.c.now in
    let t = eqb c.loop-k.k 0 || eqb (of_z w32 (at cs c.loop-k.k)) 0 in (
      omega arith,
      fits_next cs c.loop-k.k (back w32 c.x-1.given) c.loop-k.invariant.1,
      λ e. plain_next cs c.loop-k.k (told cs c.loop-k.k c.x-1.given (both_left t c.loop-k.plain e)) (c.loop-k.invariant.2 (both_right t c.loop-k.plain e)),
    )

pub returns : goal.returns
unfolding block_fits
returns c =
    let e : c.loop-k.k ≡ 16 = omega arith in
    record { fits_value = rw e at c.loop-k.invariant.1; plain_to = rw e at c.loop-k.invariant.2 }
