-- How a number comes into an expression: as a parameter, an unsigned number, the result of a call, an element; and what a cast asks.
use Rattle.std.specs.Prelude.{◌≡◌, Bool, ◌&&◌, ℕ, ◌-◌, ◌^◌, ◌<◌, ◌≤◌, T, ℤ, pos, neg_ℤ, nat_abs, ◌≤ℤ◌}
use Rattle.std.proofs.Common.{sym, ap, subst, ◌∙◌, arith}
use Rattle.std.specs.Int.Signed.{le_z, lt_z, le_z_yes, mag, non_neg, yes_non_neg, pos-nat_abs}
use Rattle.std.specs.Int.{Width}
use mir.Val.{SFits, Fits, hbits, bits, to_z, of_z}
use Rattle.std.proofs.lemmas.Int.{to_z-of_z}
use Rattle.numbers.specs.Tests.{and_l, and_r}
use Rattle.numbers.specs.In.{In}
use Rattle.numbers.specs.Parts.{to_le, of_le, ≤ℤ-trans, lt_up, fits_parts, up_neg, dn_neg}
use Rattle.numbers.specs.Know.{Know, plainly, within, round, rounded, wider, inside_read}
use Rattle.numbers.specs.Eval.{Var}

-- ---- numbers at hand
abbrev pub known : {t z l h : ℤ} → Know t z l h → Var
known {t} {z} {l} {h} k = record { t = t; z = z; l = l; h = h; is = k }

-- a parameter, or any number z that the record `In` bounds and that fits w: the machine reads it back as round w z
pub there : (w : Width) {z l h : ℤ} → In l h z → T (within w l h) → Know (round w z) z l h
there w i b = rounded w (plainly i) b

-- a number of which nothing is known but that w bits hold it
pub any : (w : Width) {z : ℤ} → SFits w z → Know (round w z) z (neg_ℤ (pos (2 ^ hbits w))) (pos (2 ^ hbits w - 1))
any w {z} f =
    let p = fits_parts w z f in
    let n : ℕ = 2 ^ hbits w in
    record { eq = to_z-of_z w z f; low = of_le (omega (arith, up_neg (pos n), dn_neg (pos n))); high = of_le (omega arith) }

-- an unsigned number, not above a numeral of the contract, or as wide as its type lets it be
pub unsigned_below : {n m : ℕ} → n ≤ m → In (pos 0) (pos m) (pos n)
unsigned_below p = record { low = of_le (omega arith); high = of_le (omega arith) }

pub unsigned : {w : Width} {n : ℕ} → Fits w n → In (pos 0) (pos (2 ^ bits w - 1)) (pos n)
unsigned f = unsigned_below (omega (arith, f.fits))

-- the result r of a call, which is z: bounds of z, by a law on the definition that the contract names, or of r
pub answered : (w : Width) {r z l h : ℤ} → r ≡ z → In l h z → T (within w l h) → Know (round w r) z l h
answered w {r} {z} {l} {h} e i b = subst (λ (x : ℤ). Know (round w x) z l h) (sym e) (there w i b)

pub called : (w : Width) {r z l h : ℤ} → r ≡ z → In l h r → T (within w l h) → Know (round w r) z l h
called w {r} {z} {l} {h} e i b = subst (λ (x : ℤ). Know (round w r) x l h) e (there w i b)

-- what is passed to a callee that asks wider bounds
pub passed : (w : Width) {l h l' h' z : ℤ} → In l h z → T (within w l h) → T (le_z l' l && le_z h h') → In l' h' (round w z)
passed w i b c = inside_read (wider (there w i b) c)

-- an element of an array or a slice: what a read of one gives is that bound (`c.THING.given`)
pub back : (w : Width) {z : ℤ} → mag z < 2 ^ hbits w → round w z ≡ z
back w {z} p = to_z-of_z w z (record { sfits = p })

-- ---- casts. Between signed widths it is `fit` and `rounded`
-- to an unsigned type: what the machine asks, and the result
abbrev pub plain : Width → ℤ → ℤ → Bool
plain w l h = le_z (pos 0) l && lt_z h (pos (2 ^ bits w))

nat_fits : (n m : ℕ) (h : ℤ) → pos n ≤ℤ h → T (lt_z h (pos m)) → n < m
nat_fits n m h p q = omega (arith, to_le p, lt_up h m q)

pub unsigned_asks : {w : Width} {t z l h : ℤ} → Know t z l h → T (plain w l h) → T (non_neg t) × Fits w (nat_abs t)
unsigned_asks {w} {t} {z} {l} {h} k b =
    let n : pos 0 ≤ℤ z = ≤ℤ-trans (le_z_yes (and_l (le_z (pos 0) l) (lt_z h (pos (2 ^ bits w))) b)) k.low in
    let u : pos (nat_abs z) ≤ℤ h = subst (λ (x : ℤ). x ≤ℤ h) (sym (pos-nat_abs z (yes_non_neg n))) k.high in
    subst (λ (x : ℤ). T (non_neg x) × Fits w (nat_abs x)) (sym k.eq)
    (yes_non_neg n, record { fits = nat_fits (nat_abs z) (2 ^ bits w) h u (and_r (le_z (pos 0) l) (lt_z h (pos (2 ^ bits w))) b) })

-- numbers of the same bits are equal: what `==` on signed numbers says
pub same_bits : (w : Width) {a b : ℤ} → SFits w a → SFits w b → of_z w a ≡ of_z w b → a ≡ b
same_bits w {a} {b} f g e = sym (to_z-of_z w a f) ∙ ap (to_z w) e ∙ to_z-of_z w b g
