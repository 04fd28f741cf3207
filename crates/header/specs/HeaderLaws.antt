-- The laws of the header's test: what a fine header is.
use Rattle.std.specs.Prelude.{◌+◌, ◌-◌, ◌/◌, ◌%◌, ◌<◌, ◌≡◌, ◌||◌, ◌+ℤ◌, ◌*ℤ◌}
use Rattle.numbers.specs.Words.{ℕ, zero, suc, add-one, arith, refl, sym, ap, Bool, true, false, not, ⊎_elim, eqb, lt_or, never, not_so, both_left, both_right, both_true, eq-eqb, eqb-true, not-true, List, length, get_or-eq_default, ℤ, pos, negsuc, lt_z, shr_z, In, Each, of_le, of_eq, nlt_le, add_parts, up_times, dn_times}
use Rattle.header.specs.Header.{entry_count, entry, probability_of, outside, fine_to, entries_of, header_of}

-- ---- a probability
pub probability_below : (z : ℤ) → probability_of z < 256
probability_below (pos n) = omega arith
probability_below (negsuc n) = omega arith

-- it differs from its entry by a multiple of 256
pub probability_modulo : (z : ℤ) → pos (probability_of z) +ℤ pos 256 *ℤ shr_z z 256 ≡ z
probability_modulo (pos n) = ap pos (omega arith)
probability_modulo (negsuc n) =
    of_eq
    (omega (arith, add_parts (pos (255 - n % 256)) (pos 256 *ℤ negsuc (n / 256)), up_times 256 (negsuc (n / 256)), dn_times 256 (negsuc (n / 256))))

-- ---- the test, as a loop makes it
pub fine_none : (h : List ℤ) → fine_to h 0 ≡ true
unfolding fine_to
fine_none h = refl

pub fine_next : (h : List ℤ) (i : ℕ) → fine_to h i ≡ true → outside (entry h i) ≡ false → fine_to h (i + 1) ≡ true
unfolding fine_to
fine_next h i e f = rw add-one (both_true e (ap not f))

fine_at : (h : List ℤ) (n i : ℕ) → fine_to h n ≡ true → i < n → outside (entry h i) ≡ false
unfolding fine_to
fine_at h zero i e l = absurd (omega arith)
fine_at h (suc n) i e l =
    ⊎_elim
    (λ k. fine_at h n i (both_left _ _ e) k)
    (λ k. let g : i ≡ n = omega arith in rw g (not-true _ (both_right (fine_to h n) _ e)))
    (lt_or i n)

module _ (h : List ℤ) where
  pub entries_out : (i : ℕ) → i < length h → outside (entry h i) ≡ true → false ≡ entries_of h
  unfolding entries_of
  entries_out i l f = not_so (fine_to h (length h)) (λ e. never f (fine_at h (length h) i e l))

  pub entries_all : (i : ℕ) → i ≡ length h → fine_to h i ≡ true → true ≡ entries_of h
  unfolding entries_of
  entries_all i k e = sym (rw k at e)

  pub header_length : header_of h ≡ true → length h ≡ entry_count
  unfolding header_of
  header_length e = eqb-true _ _ (both_left _ _ e)

  pub header_entries : header_of h ≡ true → entries_of h ≡ true
  unfolding header_of
  header_entries e = both_right (eqb (length h) entry_count) _ e

  pub header_fine_lem : length h ≡ entry_count → entries_of h ≡ true → header_of h ≡ true
  unfolding header_of
  header_fine_lem l e = both_true (eq-eqb _ _ l) e

-- ---- what fine entries are: each lies in -255..255
either_left : (a b : Bool) → a || b ≡ false → a ≡ false
either_left true b e = e
either_left false b e = refl

either_right : (a b : Bool) → a || b ≡ false → b ≡ false
either_right true b e = absurd (never refl e)
either_right false b e = e

inside : (z : ℤ) → outside z ≡ false → In (negsuc 254) (pos 255) z
inside z e = record { low = nlt_le z (negsuc 254) (either_left _ _ e); high = nlt_le (pos 255) z (either_right (lt_z z (negsuc 254)) _ e) }

pub entries_each : (h : List ℤ) → entries_of h ≡ true → Each (negsuc 254) (pos 255) h
unfolding entries_of
entries_each h e =
    record {
      at = λ i. ⊎_elim
          (λ l. inside (entry h i) (fine_at h (length h) i e l))
          (λ g. rw (get_or-eq_default h (pos 0) {n = i} g) (record { low = of_le (omega arith); high = of_le (omega arith) }))
          (lt_or i (length h));
    }

pub header_each : (h : List ℤ) → header_of h ≡ true → Each (negsuc 254) (pos 255) h
header_each h e = entries_each h (header_entries h e)
