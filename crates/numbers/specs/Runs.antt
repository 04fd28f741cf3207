-- Lists with a run of elements replaced, as a loop that stores one after the other leaves them.
use Prim.Native.Nat.{ℕ, zero, suc, ◌+◌, ◌-◌, ◌≤◌, ◌<◌}
use Rattle.std.specs.Prelude.{◌≡◌, ◌⊎◌, length, replicate}
use Rattle.std.proofs.Math.Path.{refl, ap₂}
use Rattle.std.proofs.Common.{sym, ap, ◌∙◌, inl, inr, ⊎_elim, arith, ◌++◌, take, drop, get_or-set_same, ext_get_or, get_or-append-add, get_or-take, get_or-drop, length-append, length-drop, length-take-le}
use mathlib.Core.List.{List}
use Rattle.std.proofs.Math.Decide.{ℕ_discrete}
use Rattle.std.proofs.Math.Numerals.{add-one}
use Rattle.std.proofs.Math.ListN.{get_or, set, length-set, get_or-append}
use Rattle.std.proofs.lemmas.List.{set-get_or, length-replicate}
use Rattle.std.proofs.Math.Seq.{get_or-set_other}
use Rattle.numbers.specs.Tests.{lt_or}
use Rattle.numbers.specs.Lists.{set_keeps, get_or_constant}

-- p with f 0, f 1, .. f (n - 1) at the place `at` and after
unfoldable pub placed {ℓ} : {A : Type ℓ} → List A → ℕ → (ℕ → A) → ℕ → List A
placed p at f zero = p
placed p at f (suc n) = set (placed p at f n) (at + n) (f n)

-- p with n numbers of b, from its place `from` on, at the place `at` and after
unfoldable pub copied : (p : List ℕ) (at : ℕ) (b : List ℕ) (from n : ℕ) → List ℕ
copied p at b from n = placed p at (λ j. get_or b (from + j) 0) n

-- a place outside the n places from `at` on
abbrev pub Off : ℕ → ℕ → ℕ → Type 0
Off at n i = (i < at) ⊎ (at + n ≤ i)

-- ---- laws
pub off_less : (at n i : ℕ) → Off at (suc n) i → Off at n i
off_less at n i (inl h) = inl h
off_less at n i (inr h) = inr (omega arith)

pub off_last : (at n i : ℕ) → Off at (suc n) i → i ≡ at + n → ⊥
off_last at n i (inl h) e = omega arith
off_last at n i (inr h) e = omega arith

module _ {ℓ} {A : Type ℓ} where
  pub placed_none : (p : List A) (at : ℕ) (f : ℕ → A) → placed p at f 0 ≡ p
  unfolding placed
  placed_none p at f = refl

  pub placed_next : (p : List A) (at : ℕ) (f : ℕ → A) (n : ℕ) → set (placed p at f n) (at + n) (f n) ≡ placed p at f (n + 1)
  unfolding placed
  placed_next p at f n = rw add-one

  pub length_placed : (p : List A) (at : ℕ) (f : ℕ → A) (n : ℕ) → length (placed p at f n) ≡ length p
  unfolding placed
  length_placed p at f zero = refl
  length_placed p at f (suc n) = length-set (placed p at f n) (at + n) (f n) ∙ length_placed p at f n

  pub placed_in : (p : List A) (at : ℕ) (f : ℕ → A) (n j : ℕ) (d : A) → at + n ≤ length p → j < n → get_or (placed p at f n) (at + j) d ≡ f j
  unfolding placed
  placed_in p at f zero j d l h = absurd (omega arith)
  placed_in p at f (suc n) j d l h = elim (ℕ_discrete j n) [
    | yes e ↦ rw e (get_or-set_same (placed p at f n) (at + n) (f n) d (rw (length_placed p at f n) (omega arith)))
    | no e ↦ get_or-set_other (placed p at f n) (at + n) (at + j) (f n) d (λ q. e (omega arith)) ∙ placed_in p at f n j d (omega arith) (omega arith)
  ]

  pub placed_off : (p : List A) (at : ℕ) (f : ℕ → A) (n i : ℕ) (d : A) → Off at n i → get_or (placed p at f n) i d ≡ get_or p i d
  unfolding placed
  placed_off p at f zero i d h = refl
  placed_off p at f (suc n) i d h =
      get_or-set_other (placed p at f n) (at + n) i (f n) d (off_last at n i h) ∙ placed_off p at f n i d (off_less at n i h)

  -- what holds of every element of p and of what is placed holds of every element after
  pub placed_keeps : (P : A → Type 0) (p : List A) (at : ℕ) (f : ℕ → A) (n : ℕ) (d : A) → ((j : ℕ) → P (get_or p j d)) → ((j : ℕ) → P (f j)) → (j : ℕ) → P (get_or (placed p at f n) j d)
  unfolding placed
  placed_keeps P p at f zero d h k = h
  placed_keeps P p at f (suc n) d h k = set_keeps P (placed p at f n) (at + n) (f n) d (k n) (placed_keeps P p at f n d h k)

  -- what stands there already
  pub placed_self : (p : List A) (d : A) (at n : ℕ) → placed p at (λ k. get_or p (at + k) d) n ≡ p
  unfolding placed
  placed_self p d at zero = refl
  placed_self p d at (suc n) = rw (placed_self p d at n) (set-get_or p (at + n) d)

  -- two rules that agree below n place the same
  pub placed_same : (p : List A) (at : ℕ) (f g : ℕ → A) (n : ℕ) → ((i : ℕ) → i < n → f i ≡ g i) → placed p at f n ≡ placed p at g n
  unfolding placed
  placed_same p at f g zero h = refl
  placed_same p at f g (suc n) h =
      ap₂ (λ (l : List A) (x : A). set l (at + n) x) (placed_same p at f g n (λ i k. h i (omega arith))) (h n (omega arith))

  -- a part written as one, as the library's methods of slices leave it: n elements of b at the place `at`
  module _ (p b : List A) (at n : ℕ) (f : ℕ → A) (d : A) (room : at + n ≤ length p) (long : length b ≡ n) (each : (j : ℕ) → j < n → get_or b j d ≡ f j) where
    front : length (take at p) ≡ at
    front = length-take-le at p (omega arith)

    behind_front : (j : ℕ) → get_or (take at p ++ (b ++ drop n (drop at p))) (at + j) d ≡ get_or (b ++ drop n (drop at p)) j d
    behind_front j = rw front at (get_or-append-add (take at p) (b ++ drop n (drop at p)) j d)

    part_length : length (take at p ++ (b ++ drop n (drop at p))) ≡ length p
    part_length = rw (length-append, front, length-append, long, length-drop, length-drop) (omega arith)

    part_at : (i : ℕ) → get_or (take at p ++ (b ++ drop n (drop at p))) i d ≡ get_or (placed p at f n) i d
    part_at i = ⊎_elim
        (λ h. get_or-append (take at p) (b ++ drop n (drop at p)) d i (rw front h) ∙ get_or-take at p i d h ∙ sym (placed_off p at f n i d (inl h)))
        (λ g. ⊎_elim
        (λ h. let e : i ≡ at + (i - at) = omega arith in rw e (behind_front (i - at) ∙ get_or-append b (drop n (drop at p)) d (i - at) (rw long h) ∙ each (i - at) h ∙ sym (placed_in p at f n (i - at) d room h)))
        (λ h. let k : i - at ≡ length b + (i - at - n) = omega (arith, long) in let e : i ≡ at + (i - at) = omega arith in let q : at + (n + (i - at - n)) ≡ i = omega arith in
        ap (λ (m : ℕ). get_or (take at p ++ (b ++ drop n (drop at p))) m d) e ∙ behind_front (i - at) ∙ ap (λ (m : ℕ). get_or (b ++ drop n (drop at p)) m d) k
        ∙ get_or-append-add b (drop n (drop at p)) (i - at - n) d ∙ get_or-drop n (drop at p) (i - at - n) d ∙ get_or-drop at p (n + (i - at - n)) d
        ∙ ap (λ (m : ℕ). get_or p m d) q ∙ sym (placed_off p at f n i d (inr (omega arith))))
        (lt_or (i - at) n))
        (lt_or i at)

    pub part_placed : take at p ++ (b ++ drop n (drop at p)) ≡ placed p at f n
    part_placed = ext_get_or d (take at p ++ (b ++ drop n (drop at p))) (placed p at f n) (part_length ∙ sym (length_placed p at f n)) (λ i h. part_at i)

-- ---- the same of a copy
pub copied_placed : (p : List ℕ) (at : ℕ) (b : List ℕ) (from n : ℕ) → copied p at b from n ≡ placed p at (λ j. get_or b (from + j) 0) n
unfolding copied
copied_placed p at b from n = refl

pub copied_none : (p : List ℕ) (at : ℕ) (b : List ℕ) (from : ℕ) → copied p at b from 0 ≡ p
unfolding copied
copied_none p at b from = placed_none p at (λ j. get_or b (from + j) 0)

module _ (p : List ℕ) (at : ℕ) (b : List ℕ) (from n : ℕ) where
  pub copied_next : set (copied p at b from n) (at + n) (get_or b (from + n) 0) ≡ copied p at b from (n + 1)
  unfolding copied
  copied_next = placed_next p at (λ j. get_or b (from + j) 0) n

  pub length_copied : length (copied p at b from n) ≡ length p
  unfolding copied
  length_copied = length_placed p at (λ j. get_or b (from + j) 0) n

  pub copied_keeps : (P : ℕ → Type 0) → ((j : ℕ) → P (get_or p j 0)) → ((j : ℕ) → P (get_or b j 0)) → (j : ℕ) → P (get_or (copied p at b from n) j 0)
  unfolding copied
  copied_keeps P h k = placed_keeps P p at (λ j. get_or b (from + j) 0) n 0 h (λ j. k (from + j))

  pub copied_in : (j : ℕ) → at + n ≤ length p → j < n → get_or (copied p at b from n) (at + j) 0 ≡ get_or b (from + j) 0
  unfolding copied
  copied_in j = placed_in p at (λ j. get_or b (from + j) 0) n j 0

  pub copied_off : (i : ℕ) → Off at n i → get_or (copied p at b from n) i 0 ≡ get_or p i 0
  unfolding copied
  copied_off i = placed_off p at (λ j. get_or b (from + j) 0) n i 0

-- a part written as one: all of b, by `copy_from_slice`, or n times one number, by `fill`
pub part_copied : (p b : List ℕ) (at n : ℕ) → at + n ≤ length p → length b ≡ n → take at p ++ (b ++ drop n (drop at p)) ≡ copied p at b 0 n
unfolding copied
part_copied p b at n l e = part_placed p b at n (λ j. get_or b (0 + j) 0) 0 l e (λ j h. ap (λ (m : ℕ). get_or b m 0) (omega arith))

pub part_filled : (p : List ℕ) (at n v : ℕ) → at + n ≤ length p → take at p ++ (replicate n v ++ drop n (drop at p)) ≡ placed p at (λ j. v) n
part_filled p at n v l = part_placed p (replicate n v) at n (λ j. v) v l (length-replicate n v) (λ j h. get_or_constant n j v)
