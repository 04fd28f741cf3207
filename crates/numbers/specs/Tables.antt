-- A rule of a whole table by one test that computes: `refl` answers the test, and a law turns it into the rule at each entry.
use Rattle.std.specs.Prelude.{ℕ, zero, suc, ◌+◌, ◌*◌, ◌/◌, ◌%◌, ◌≤◌, ◌<◌, ◌≡◌, refl, Bool, true, ◌&&◌, List, [], ◌∷◌, ◌++◌, eqb, length, get_or, set}
use Rattle.std.proofs.Common.{sym, ◌∙◌, ap, subst, inl, inr, add-suc, suc-add, zero-add, add-zero, suc-mul, mod-lt, div-add-mod', arith, get_or-append-add}
use Rattle.std.proofs.Math.ListN.{get_or-append, get_or-eq_default}
use Rattle.numbers.specs.Lists.{Filled, filled_none, filled_next, filled_all, built}
use Rattle.numbers.specs.Tests.{lt_or, both_left, both_right, eqb-true}

-- the test passes at each element and its place, counted from i
abbrev pub all_at {ℓ} : {A : Type ℓ} → (ℕ → A → Bool) → ℕ → List A → Bool
all_at test i [] = true
all_at test i (x ∷ xs) = test i x && all_at test (suc i) xs

-- the test passes at each element
abbrev pub all_of {ℓ} : {A : Type ℓ} → (A → Bool) → List A → Bool
all_of test t = all_at (λ i x. test x) 0 t

-- the test passes at each number below n
abbrev pub all_below : ℕ → (ℕ → Bool) → Bool
all_below zero test = true
all_below (suc n) test = test n && all_below n test

-- a's element at each place i is b's at π i
abbrev pub permuted : List ℕ → List ℕ → (ℕ → ℕ) → Bool
permuted a b π = all_at (λ i x. eqb x (get_or b (π i) 0)) 0 a

-- the rows of a table, one after the other
abbrev pub flat : List (List ℕ) → List ℕ
flat [] = []
flat (r ∷ rs) = r ++ flat rs

-- each row has w numbers
abbrev pub in_rows : ℕ → List (List ℕ) → Bool
in_rows w [] = true
in_rows w (r ∷ rs) = eqb (length r) w && in_rows w rs

module _ {ℓ} {A : Type ℓ} where
  from : (test : ℕ → A → Bool) (t : List A) (i : ℕ) (d : A) → all_at test i t ≡ true → (k : ℕ) → k < length t → test (i + k) (get_or t k d) ≡ true
  from test [] i d e k h = absurd (omega arith)
  from test (x ∷ xs) i d e zero h = rw (add-zero i) (both_left (test i x) (all_at test (suc i) xs) e)
  from test (x ∷ xs) i d e (suc k) h =
      subst (λ (m : ℕ). test m (get_or xs k d) ≡ true) (suc-add i k ∙ sym (add-suc i k))
      (from test xs (suc i) d (both_right (test i x) (all_at test (suc i) xs) e) k (omega arith))

  pub all_at_lem : (test : ℕ → A → Bool) (t : List A) (d : A) → all_at test 0 t ≡ true → (i : ℕ) → i < length t → test i (get_or t i d) ≡ true
  all_at_lem test t d e i h = subst (λ (m : ℕ). test m (get_or t i d) ≡ true) (zero-add i) (from test t 0 d e i h)

  pub all_of_lem : (test : A → Bool) (t : List A) (d : A) → all_of test t ≡ true → (i : ℕ) → i < length t → test (get_or t i d) ≡ true
  all_of_lem test t d e = all_at_lem (λ i x. test x) t d e

  -- where the test holds of what stands past the end, it holds at every place
  pub all_of_any : (test : A → Bool) (t : List A) (d : A) → test d ≡ true → all_of test t ≡ true → (i : ℕ) → test (get_or t i d) ≡ true
  all_of_any test t d h e i = elim (lt_or i (length t)) [
    | inl l ↦ all_of_lem test t d e i l
    | inr g ↦ rw (get_or-eq_default t d g) h
  ]

pub all_below_lem : (test : ℕ → Bool) (n : ℕ) → all_below n test ≡ true → (i : ℕ) → i < n → test i ≡ true
all_below_lem test zero e i h = absurd (omega arith)
all_below_lem test (suc n) e i h = elim (lt_or i n) [
  | inl l ↦ all_below_lem test n (both_right (test n) (all_below n test) e) i l
  | inr g ↦ let z : i ≡ n = omega arith in rw z (both_left (test n) (all_below n test) e)
]

pub permuted_at : (a b : List ℕ) (π : ℕ → ℕ) → permuted a b π ≡ true → (i : ℕ) → i < length a → get_or a i 0 ≡ get_or b (π i) 0
permuted_at a b π e i h = eqb-true (get_or a i 0) (get_or b (π i) 0) (all_at_lem (λ i x. eqb x (get_or b (π i) 0)) a 0 e i h)

-- ---- a table in rows of w numbers: number i stands in row i / w, at i % w
in_row : (w : ℕ) (rows : List (List ℕ)) → in_rows w rows ≡ true → (q r : ℕ) → r < w → get_or (get_or rows q []) r 0 ≡ get_or (flat rows) (q * w + r) 0
in_row w [] e q r h = refl
in_row w (x ∷ xs) e zero r h =
    let n : length x ≡ w = eqb-true (length x) w (both_left _ _ e) in
    let z : 0 * w + r ≡ r = omega arith in
    rw z (sym (get_or-append x (flat xs) 0 r (omega arith)))
in_row w (x ∷ xs) e (suc q) r h =
    let n : length x ≡ w = eqb-true (length x) w (both_left _ _ e) in
    let z : suc q * w + r ≡ length x + (q * w + r) = omega (arith, suc-mul q w) in
    rw z (in_row w xs (both_right (eqb (length x) w) _ e) q r h ∙ sym (get_or-append-add x (flat xs) (q * w + r) 0))

pub flat_at_lem : (w : ℕ) (rows : List (List ℕ)) → 0 < w → in_rows w rows ≡ true → (i : ℕ) → get_or (get_or rows (i / w) []) (i % w) 0 ≡ get_or (flat rows) i 0
flat_at_lem w rows h e i = in_row w rows e (i / w) (i % w) (mod-lt i h) ∙ ap (λ (k : ℕ). get_or (flat rows) k 0) (div-add-mod' i w)

-- l, of n numbers, holds the table below i: what a loop that stores number i at i keeps
pub record Laid (w : ℕ) (rows : List (List ℕ)) (n : ℕ) (l : List ℕ) (i : ℕ) : Type 0 where
  pub wide : 0 < w
  pub even : in_rows w rows ≡ true
  pub whole : length (flat rows) ≡ n
  pub filled : Filled l n (λ k. get_or (flat rows) k 0) i

pub laid_none : (w : ℕ) (rows : List (List ℕ)) (n : ℕ) (l : List ℕ) → 0 < w → in_rows w rows ≡ true → length (flat rows) ≡ n → length l ≡ n → Laid w rows n l 0
laid_none w rows n l h e m f = record { wide = h; even = e; whole = m; filled = filled_none l n _ f }

module _ {w : ℕ} {rows : List (List ℕ)} {n : ℕ} {l : List ℕ} {i : ℕ} (g : Laid w rows n l i) where
  pub laid_next : i < n → Laid w rows n (set l i (get_or (get_or rows (i / w) []) (i % w) 0)) (i + 1)
  laid_next h = record { wide = g.wide; even = g.even; whole = g.whole; filled = filled_next _ h (flat_at_lem w rows g.wide g.even i) g.filled }

  pub laid_all : n ≤ i → l ≡ flat rows
  laid_all h = filled_all h g.filled ∙ sym (built (flat rows) n (λ k. get_or (flat rows) k 0) 0 g.whole (λ k q. refl))
