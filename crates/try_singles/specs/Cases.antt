-- How the program reads its header, fills its planes and sums them.
use Rattle.std.specs.Prelude.{◌+◌, ◌*◌, ◌%◌, ◌≡◌, ◌∷◌, ◌+ℤ◌, ◌-ℤ◌, ◌*ℤ◌}
use Rattle.numbers.specs.Words.{ℕ, zero, suc, add-one, refl, Some, None, false, List, [], replicate, get_or, build, ℤ, pos}
use Rattle.header.specs.Header.{entry_count}
use Rattle.header.specs.Quantizers.{no_factors}
use Rattle.header.specs.declared.frame.Frame.{Frame}
use Rattle.header.specs.Frame.{framed_of}

-- ---- an entry of the header: two bytes, 32768 too large
abbrev pub entry_of : ℕ → ℕ → ℤ
entry_of a b = pos 256 *ℤ pos a +ℤ pos b -ℤ pos 32768

abbrev pub entry_at : List ℕ → ℕ → ℤ
entry_at l i = entry_of (get_or l (2 * i) 0) (get_or l (2 * i + 1) 0)

abbrev pub entries_of : List ℕ → List ℤ
entries_of l = build entry_count (entry_at l)

-- ---- the frame of the header; zeros where it is refused
abbrev pub no_frame : Frame
no_frame = record {
  factors = no_factors ∷ no_factors ∷ no_factors ∷ no_factors ∷ [];
  large = replicate 4 0;
  small = replicate 4 0;
  sharp = 0;
  announced = record { map = false; map_probabilities = replicate 3 0; skips = false; skip_probability = 0 };
}

unfoldable pub frame_for : List ℤ → Frame
frame_for h = elim (framed_of h) [ Some f ↦ f | None ↦ no_frame ]

-- ---- a plane filled: the numbers after a seed, and a sample of each
unfoldable pub after : ℕ → ℕ → ℕ
after seed zero = seed
after seed (suc k) = (after seed k * 75 + 74) % 65537

abbrev pub sample_of : ℕ → ℕ → ℕ
sample_of seed k = after seed (k + 1) % 256

abbrev pub samples_of : ℕ → ℕ → List ℕ
samples_of n seed = build n (sample_of seed)

-- ---- and summed: its first n samples
unfoldable pub sum_to : List ℕ → ℕ → ℕ
sum_to p zero = 0
sum_to p (suc n) = (sum_to p n * 257 + get_or p n 0) % 4294967291

-- ---- before the first turn, and a turn
pub after_none : (seed : ℕ) → seed ≡ after seed 0
unfolding after
after_none seed = refl

pub sum_none : (p : List ℕ) → 0 ≡ sum_to p 0
unfolding sum_to
sum_none p = refl

pub after_next : (seed k : ℕ) {x : ℕ} → x ≡ after seed k → (x * 75 + 74) % 65537 ≡ after seed (k + 1)
unfolding after
after_next seed k e = rw (e, add-one)

pub sum_next : (p : List ℕ) (k : ℕ) {s : ℕ} → s ≡ sum_to p k → (s * 257 + get_or p k 0) % 4294967291 ≡ sum_to p (k + 1)
unfolding sum_to
sum_next p k e = rw (e, add-one)
