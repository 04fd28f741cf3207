-- The reader's laws: what each test says, the error of the first that fails, what a file has that is not refused.
use Rattle.std.specs.Prelude.{◌+◌, ◌%◌, ◌≤◌, ◌≡◌, ◌&&◌, ◌||◌, ◌⊎◌}
use Rattle.numbers.specs.Words.{ℕ, refl, Bool, true, false, Some, None, Ok, Err, inl, inr, ⊎_elim, eqb, leb, both_left, both_right, eq-eqb, eqb-true, le-leb, leb-true, ne_eqb, List, length, get_or, byte_at}
use Rattle.webp.specs.declared.read.FindError.{FindError}
use Rattle.webp.specs.declared.read.FindError.TheVariants as F
use Rattle.webp.specs.Webp.{uint32_at, riff, webp, vp8, four_cc_at, marked_of, sized_of, lossy_of, chunk_size, filled_of, find_refusal, found_refusal, found_at, find_of}

-- ---- marks
module _ (s : List ℕ) (i : ℕ) (c : List ℕ) where
  pub four_cc_long : i + 4 ≤ length s → eqb (byte_at s i) (get_or c 0 0) && eqb (byte_at s (i + 1)) (get_or c 1 0) && eqb (byte_at s (i + 2)) (get_or c 2 0) && eqb (byte_at s (i + 3)) (get_or c 3 0) ≡ four_cc_at s i c
  unfolding four_cc_at
  four_cc_long h = rw (le-leb _ _ h)

-- ---- the tests
module _ (s : List ℕ) where
  pub sized_long : {n : ℕ} → 8 ≤ length s → n ≡ uint32_at s 4 → eqb (n + 8) (length s) ≡ sized_of s
  unfolding sized_of
  sized_long h e = rw (le-leb _ _ h, e)

  module _ {n : ℕ} (long : 20 ≤ length s) (e : n ≡ chunk_size s) where
    pub filled_even : 20 + n + n % 2 ≡ length s → n % 2 ≡ 0 → true ≡ filled_of s
    unfolding filled_of
    filled_even h f = rw (le-leb _ _ long, ← e, eq-eqb _ _ h, eq-eqb _ _ f)

    pub filled_pad : 20 + n + n % 2 ≡ length s → (n % 2 ≡ 0 → ⊥) → eqb (byte_at s (20 + n)) 0 ≡ filled_of s
    unfolding filled_of
    filled_pad h f = rw (le-leb _ _ long, ← e, eq-eqb _ _ h, ne_eqb _ _ f)

-- ---- the first that fails
module _ (marked sized lossy filled : Bool) where
  pub refusal_mark : marked ≡ false → Some F.NotWebp ≡ find_refusal marked sized lossy filled
  unfolding find_refusal
  refusal_mark e = rw e

  pub refusal_size : marked ≡ true → sized ≡ false → Some F.WrongSize ≡ find_refusal marked sized lossy filled
  unfolding find_refusal
  refusal_size e f = rw (e, f)

  pub refusal_kind : marked ≡ true → sized ≡ true → lossy ≡ false → Some F.NotLossy ≡ find_refusal marked sized lossy filled
  unfolding find_refusal
  refusal_kind e f g = rw (e, f, g)

  pub refusal_chunk : marked ≡ true → sized ≡ true → lossy ≡ true → filled ≡ false → Some F.WrongSize ≡ find_refusal marked sized lossy filled
  unfolding find_refusal
  refusal_chunk e f g h = rw (e, f, g, h)

  pub refusal_none : marked ≡ true → sized ≡ true → lossy ≡ true → filled ≡ true → None ≡ find_refusal marked sized lossy filled
  unfolding find_refusal
  refusal_none e f g h = rw (e, f, g, h)

-- ---- what a file that is not refused has
pub record Fits (s : List ℕ) : Type 0 where
  pub riff : four_cc_at s 0 riff ≡ true
  pub webp : four_cc_at s 8 webp ≡ true
  pub size : uint32_at s 4 + 8 ≡ length s
  pub vp8 : four_cc_at s 12 vp8 ≡ true
  pub long : 20 ≤ length s
  pub ends : 20 + chunk_size s + chunk_size s % 2 ≡ length s
  pub pad : (chunk_size s % 2 ≡ 0) ⊎ (byte_at s (20 + chunk_size s) ≡ 0)

or_true : (a b : Bool) → a || b ≡ true → (a ≡ true) ⊎ (b ≡ true)
or_true true b e = inl refl
or_true false b e = inr e

none_refused : (a b c d : Bool) → find_refusal a b c d ≡ None → (a ≡ true) × (b ≡ true) × (c ≡ true) × (d ≡ true)
unfolding find_refusal
none_refused false b c d e = cc
none_refused true false c d e = cc
none_refused true true false d e = cc
none_refused true true true false e = cc
none_refused true true true true e = (refl, refl, refl, refl)

pub filled_long : (s : List ℕ) → filled_of s ≡ true → 20 ≤ length s
unfolding filled_of
filled_long s t = leb-true 20 _ (both_left _ _ t)

fits_facts : (s : List ℕ) → marked_of s ≡ true → sized_of s ≡ true → lossy_of s ≡ true → filled_of s ≡ true → Fits s
unfolding marked_of sized_of lossy_of filled_of
fits_facts s p q r t =
    let ends : Bool = eqb (20 + chunk_size s + chunk_size s % 2) (length s) in
    let rest = both_right (leb 20 (length s)) _ t in
    record {
      riff = both_left _ _ p;
      webp = both_right (four_cc_at s 0 riff) _ p;
      size = eqb-true _ _ (both_right (leb 8 (length s)) _ q);
      vp8 = r;
      long = leb-true 20 _ (both_left _ _ t);
      ends = eqb-true _ _ (both_left ends _ rest);
      pad = ⊎_elim (λ e. inl (eqb-true _ _ e)) (λ e. inr (eqb-true _ _ e)) (or_true (eqb (chunk_size s % 2) 0) _ (both_right ends _ rest));
    }

pub fits : (s : List ℕ) → found_refusal s ≡ None → Fits s
fits s e = let f = none_refused (marked_of s) (sized_of s) (lossy_of s) (filled_of s) e in fits_facts s f.0 f.1 f.2 f.3

-- ---- the reader's answer, as the code finds it
module _ (s : List ℕ) where
  pub find_good : found_refusal s ≡ None → Ok (found_at 20 (chunk_size s)) ≡ find_of s
  unfolding find_of
  find_good e = rw (e, find_of)

  pub find_bad : {e : FindError} → found_refusal s ≡ Some e → Err e ≡ find_of s
  unfolding find_of
  find_bad e = rw (e, find_of)
