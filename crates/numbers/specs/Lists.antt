-- Lists by their elements: a list built from a rule, an array that a loop fills, a constant list (`replicate n v`, which is what the
-- code's `[v; n]` is). What one store or a part of a list does stands in lib.ListN and lib.Seq (`get_or-set_same`, `set-set`, `ext_get_or`, ..).
use Prim.Native.Nat.{ℕ, zero, suc, ◌+◌, ◌≤◌, ◌<◌}
use Rattle.std.specs.Prelude.{◌≡◌, List, [], ◌∷◌, ◌++◌, length, get_or, set, take, drop, replicate}
use Rattle.std.proofs.Math.Path.{refl, ap}
use Rattle.std.proofs.Common.{sym, ◌∙◌, ap₂, arith, length-set, ext_get_or, get_or-set_same, get_or-set_other, take_all}
use Rattle.std.proofs.Math.Decide.{ℕ_discrete}
use Rattle.std.proofs.lemmas.List.{length-replicate}
use Rattle.std.proofs.Math.ListN.{get_or-eq_default}
use Rattle.std.proofs.Math.Seq.{take-length}

-- f 0, f 1, .. f (n - 1)
unfoldable pub build {ℓ} : {A : Type ℓ} → ℕ → (ℕ → A) → List A
build zero f = []
build (suc n) f = f 0 ∷ build n (λ i. f (suc i))

-- the same written out, which computes where n is known: `build_listed` turns one into the other
abbrev pub listed {ℓ} : {A : Type ℓ} → ℕ → (ℕ → A) → List A
listed zero f = []
listed (suc n) f = f 0 ∷ listed n (λ i. f (suc i))

-- l, of n elements, holds f below i: what a loop that stores f i at i keeps
pub record Filled {ℓ} {A : Type ℓ} (l : List A) (n : ℕ) (f : ℕ → A) (i : ℕ) : Type ℓ where
  pub long : length l ≡ n
  pub upto : i ≤ n
  pub holds : (k : ℕ) (d : A) → k < i → get_or l k d ≡ f k

-- ---- two lists element by element: `p ∷≡ q ∷≡ refl`
infixr 5 ◌∷≡◌
pub ◌∷≡◌ {ℓ} : {A : Type ℓ} {x y : A} {xs ys : List A} → x ≡ y → xs ≡ ys → x ∷ xs ≡ y ∷ ys
p ∷≡ q = ap₂ ◌∷◌ p q

module _ {ℓ} {A : Type ℓ} where
  -- ---- a statement about every element, d standing past the end
  pub ∷-keeps : (P : A → Type 0) (x : A) (xs : List A) (d : A) → P x → ((i : ℕ) → P (get_or xs i d)) → (i : ℕ) → P (get_or (x ∷ xs) i d)
  ∷-keeps P x xs d p h zero = p
  ∷-keeps P x xs d p h (suc i) = h i

  pub set_keeps : (P : A → Type 0) (l : List A) (i : ℕ) (v d : A) → P v → ((j : ℕ) → P (get_or l j d)) → (j : ℕ) → P (get_or (set l i v) j d)
  set_keeps P [] i v d p h j = h j
  set_keeps P (x ∷ xs) zero v d p h zero = p
  set_keeps P (x ∷ xs) zero v d p h (suc j) = h (suc j)
  set_keeps P (x ∷ xs) (suc i) v d p h zero = h zero
  set_keeps P (x ∷ xs) (suc i) v d p h (suc j) = set_keeps P xs i v d p (λ k. h (suc k)) j

  -- ---- a list built from a rule
  pub length_build : (n : ℕ) (f : ℕ → A) → length (build n f) ≡ n
  unfolding build
  length_build zero f = refl
  length_build (suc n) f = ap suc (length_build n (λ i. f (suc i)))

  pub build_listed : (n : ℕ) (f : ℕ → A) → build n f ≡ listed n f
  unfolding build
  build_listed zero f = refl
  build_listed (suc n) f = refl ∷≡ build_listed n (λ i. f (suc i))

  pub get_or_build : (n : ℕ) (f : ℕ → A) (i : ℕ) (d : A) → i < n → get_or (build n f) i d ≡ f i
  unfolding build
  get_or_build zero f i d h = absurd (omega arith)
  get_or_build (suc n) f zero d h = refl
  get_or_build (suc n) f (suc i) d h = get_or_build n (λ i. f (suc i)) i d (omega arith)

  pub get_or_build_past : (n : ℕ) (f : ℕ → A) (i : ℕ) (d : A) → n ≤ i → get_or (build n f) i d ≡ d
  get_or_build_past n f i d h = get_or-eq_default (build n f) d (rw (length_build n f) h)

  -- a list of n elements that agrees with f below n is `build n f`
  pub built : (l : List A) (n : ℕ) (f : ℕ → A) (d : A) → length l ≡ n → ((i : ℕ) → i < n → get_or l i d ≡ f i) → l ≡ build n f
  built l n f d e h =
      ext_get_or d l (build n f) (e ∙ sym (length_build n f)) (λ i g. h i (rw (← e) g) ∙ sym (get_or_build n f i d (rw (← e) g)))

  -- two rules that agree below n build the same
  pub build_same : (n : ℕ) (f g : ℕ → A) → ((i : ℕ) → i < n → f i ≡ g i) → build n f ≡ build n g
  build_same n f g h = built (build n f) n g (f 0) (length_build n f) (λ i l. get_or_build n f i (f 0) l ∙ h i l)

  -- ---- an array that a loop fills: before it, after a turn, and after the last
  pub filled_none : (l : List A) (n : ℕ) (f : ℕ → A) → length l ≡ n → Filled l n f 0
  filled_none l n f e = record { long = e; upto = omega arith; holds = λ k d h. absurd (omega arith) }

  pub filled_next : {l : List A} {n : ℕ} {f : ℕ → A} {i : ℕ} (v : A) → i < n → v ≡ f i → Filled l n f i → Filled (set l i v) n f (i + 1)
  filled_next {l} {n} {f} {i} v h e g = record { long = length-set l i v ∙ g.long; upto = omega arith; holds = at }
    where
      at : (k : ℕ) (d : A) → k < i + 1 → get_or (set l i v) k d ≡ f k
      at k d q = elim (ℕ_discrete k i) [
        | yes z ↦ rw z (get_or-set_same l i v d (rw g.long h) ∙ e)
        | no z ↦ get_or-set_other l i k v d z ∙ g.holds k d (omega arith)
      ]

  pub filled_all : {l : List A} {n : ℕ} {f : ℕ → A} {i : ℕ} → n ≤ i → Filled l n f i → l ≡ build n f
  filled_all {l} {n} {f} {i} h g = built l n f (f 0) g.long (λ k q. g.holds k (f 0) (omega arith))

  -- ---- a constant list
  pub get_or_constant : (n i : ℕ) (v : A) → get_or (replicate n v) i v ≡ v
  get_or_constant zero i v = refl
  get_or_constant (suc n) zero v = refl
  get_or_constant (suc n) (suc i) v = get_or_constant n i v

  pub constant : (l : List A) (n : ℕ) (v : A) → length l ≡ n → ((i : ℕ) → i < n → get_or l i v ≡ v) → l ≡ replicate n v
  constant l n v e h = ext_get_or v l (replicate n v) (e ∙ sym (length-replicate n v)) (λ i g. h i (rw (← e) g) ∙ sym (get_or_constant n i v))

  pub build_constant : (n : ℕ) (v : A) → build n (λ i. v) ≡ replicate n v
  build_constant n v = constant (build n (λ i. v)) n v (length_build n (λ i. v)) (λ i h. get_or_build n (λ i. v) i v h)

-- ---- the byte at a place; past the end it is zero
abbrev pub byte_at : List ℕ → ℕ → ℕ
byte_at s i = get_or s i 0

-- every element is a byte
abbrev pub Bytes : List ℕ → Type 0
Bytes s = (i : ℕ) → get_or s i 0 < 256

-- what `copy` leaves: as much of a as b has room for, then the rest of b
abbrev pub copied_over : List ℕ → List ℕ → List ℕ
copied_over a b = take (length b) a ++ drop (length a) b

-- where there is room for all
pub copy_whole : (a b : List ℕ) {c : List ℕ} → c ≡ copied_over a b → length a ≤ length b → c ≡ take (length a) a ++ drop (length a) b
copy_whole a b e h = e ∙ ap (λ (l : List ℕ). l ++ drop (length a) b) (take_all (length b) a h ∙ sym (take-length a))
