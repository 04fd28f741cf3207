-- Bytes as a number: joined, changed at a place, and one more by a carry.
use Rattle.std.specs.Prelude.{◌+◌, ◌-◌, ◌*◌, ◌^◌, ◌≤◌, ◌<◌, ◌≡◌, ◌∷◌, ◌++◌}
use Rattle.numbers.specs.Words.{ℕ, zero, suc, mul_assoc, pow-succ', arith, refl, sym, ◌∙◌, ap, ⊎_elim, eq_or, eq-eqb, ne_eqb, List, [], length, get_or, set, take, drop, length-drop, length-set, drop-cons, drop-length, take-length, take-set-le, take-suc, set_keeps}
use Rattle.reader.specs.ReadingLaws.{Bytes}
use Rattle.writer.specs.Code.{size, number}
use Rattle.writer.specs.Encoder.{add_one_of}

-- ---- joined
pub size_append : (a b : List ℕ) → size (a ++ b) ≡ size a * size b
unfolding size
size_append [] b = omega arith
size_append (x ∷ a) b = rw (size_append a b) (sym (mul_assoc 256 (size a) (size b)))

pub number_append : (a b : List ℕ) → number (a ++ b) ≡ number a * size b + number b
unfolding size number
number_append [] b = omega arith
number_append (x ∷ a) b = rw (size_append a b, number_append a b) (omega arith)

pub size_pow : (l : List ℕ) → size l ≡ 2 ^ (8 * length l)
unfolding size
size_pow [] = refl
size_pow (b ∷ l) =
    let e : 8 * suc (length l) ≡ suc (suc (suc (suc (suc (suc (suc (suc (8 * length l)))))))) = omega arith in
    rw (size_pow l, e) (omega (arith, pow-succ' 2 (8 * length l), pow-succ' 2 (suc (8 * length l)), pow-succ' 2 (suc (suc (8 * length l))), pow-succ' 2 (suc (suc (suc (8 * length l)))), pow-succ' 2 (suc (suc (suc (suc (8 * length l))))), pow-succ' 2 (suc (suc (suc (suc (suc (8 * length l)))))), pow-succ' 2 (suc (suc (suc (suc (suc (suc (8 * length l))))))), pow-succ' 2 (suc (suc (suc (suc (suc (suc (suc (8 * length l))))))))))

pub size_same : (a b : List ℕ) → length a ≡ length b → size a ≡ size b
size_same a b e = size_pow a ∙ ap (λ (n : ℕ). 2 ^ (8 * n)) e ∙ sym (size_pow b)

pub bytes_append : (a b : List ℕ) → Bytes a → Bytes b → Bytes (a ++ b)
bytes_append [] b x y i = y i
bytes_append (v ∷ a) b x y zero = x 0
bytes_append (v ∷ a) b x y (suc i) = bytes_append a b (λ j. x (suc j)) y i

-- ---- changed at a place
pub number_set : (l : List ℕ) (i v : ℕ) → i < length l → number (set l i v) + get_or l i 0 * size (drop (suc i) l) ≡ number l + v * size (drop (suc i) l)
unfolding size number
number_set [] i v h = absurd (omega arith)
number_set (b ∷ l) zero v h = omega arith
number_set (b ∷ l) (suc i) v h =
    let e = number_set l i v (omega arith) in
    let f : size (set l i v) ≡ size l = size_same (set l i v) l (length-set l i v) in
    rw f (omega arith)

-- ---- one more
pub length_add_one : (n : ℕ) (l : List ℕ) → length (add_one_of n l) ≡ length l
unfolding add_one_of
length_add_one zero l = refl
length_add_one (suc i) l =
    ⊎_elim
    (λ (e : get_or l i 0 ≡ 255). rw (eq-eqb _ _ e, add_one_of) (length_add_one i (set l i 0) ∙ length-set l i 0))
    (λ (e : get_or l i 0 ≡ 255 → ⊥). rw (ne_eqb _ _ e, add_one_of) (length-set l i (get_or l i 0 + 1)))
    (eq_or (get_or l i 0) 255)

pub bytes_add_one : (n : ℕ) (l : List ℕ) → Bytes l → Bytes (add_one_of n l)
unfolding add_one_of
bytes_add_one zero l y = y
bytes_add_one (suc i) l y =
    ⊎_elim
    (λ (e : get_or l i 0 ≡ 255). rw (eq-eqb _ _ e, add_one_of) (bytes_add_one i (set l i 0) (set_keeps (λ (b : ℕ). b < 256) l i 0 0 (omega arith) y)))
    (λ (e : get_or l i 0 ≡ 255 → ⊥). rw (ne_eqb _ _ e, add_one_of) (set_keeps (λ (b : ℕ). b < 256) l i (get_or l i 0 + 1) 0 (let z = y i in omega arith) y))
    (eq_or (get_or l i 0) 255)

pub number_add_one : (n : ℕ) (l : List ℕ) → n ≤ length l → number (take n l) + 1 < size (take n l) → number (add_one_of n l) ≡ number l + size (drop n l)
unfolding add_one_of size number
number_add_one zero l h g = absurd (omega arith)
number_add_one (suc i) l h g =
    let t : take (suc i) l ≡ take i l ++ (get_or l i 0 ∷ []) = take-suc l i 0 h in
    let a : number (take i l) * 256 + get_or l i 0 + 1 < size (take i l) * 256 = (let z = rw (t, number_append (take i l) (get_or l i 0 ∷ []), size_append (take i l) (get_or l i 0 ∷ [])) at g in omega arith) in
    ⊎_elim
    (λ (e : get_or l i 0 ≡ 255).
    let m : List ℕ = set l i 0 in
    let w : size (drop i m) ≡ 256 * size (drop (suc i) l) = size_same (drop i m) (drop i l) (length-drop i m ∙ ap (λ (n : ℕ). n - i) (length-set l i 0) ∙ sym (length-drop i l)) ∙ ap size (drop-cons l i 0 h) in
    let b : take i m ≡ take i l = take-set-le i l i 0 (omega arith) in
    let r = number_add_one i m (rw (length-set l i 0) (omega arith)) (rw b (omega arith)) in
    let c = number_set l i 0 h in
    rw (eq-eqb _ _ e, add_one_of) (let d = rw e at c in omega arith))
    (λ (e : get_or l i 0 ≡ 255 → ⊥).
    let c = number_set l i (get_or l i 0 + 1) h in
    rw (ne_eqb _ _ e, add_one_of) (omega arith))
    (eq_or (get_or l i 0) 255)

pub number_carry : (l : List ℕ) → number l + 1 < size l → number (add_one_of (length l) l) ≡ number l + 1
unfolding size
number_carry l h =
    let e = take-length l in
    number_add_one (length l) l (omega arith) (rw e h) ∙ ap (λ (t : List ℕ). number l + size t) (drop-length l)
