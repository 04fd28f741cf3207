-- The laws of a frame: its parts, the answer with a good header, and what a macroblock reads of it.
use Rattle.std.specs.Prelude.{◌+◌, ◌≤◌, ◌<◌, ◌≡◌, ◌∷◌}
use Rattle.numbers.specs.Words.{ℕ, Option, Some, None, zero, suc, arith, refl, Bool, true, false, List, [], get_or, replicate, ℤ, up_to}
use Rattle.header.specs.HeaderLaws.{probability_below}
use Rattle.header.specs.Header.{map_on, map_probability, sharpness, skips_on, skip_probability_of, entry, present_at_of, probability_at_of, header_of}
use Rattle.header.specs.Quantizers.{Factors, factors_of_of}
use Rattle.header.specs.Levels.{level_of_of}
use Rattle.header.specs.LevelsLaws.{level_in}
use Rattle.header.specs.Frame.{Announced, Frame, levels_of, announced_of, frame_of, factors_at, level_at, framed_of}
pub use Rattle.header.specs.Frame.{Probabilities}

-- ---- the parts together
pub announced_is : (h : List ℤ) {m k : Bool} {a b c p : ℕ} → m ≡ present_at_of h map_on
    → a ≡ probability_at_of h map_probability → b ≡ probability_at_of h (map_probability + 1) → c ≡ probability_at_of h (map_probability + 2)
    → k ≡ present_at_of h skips_on → p ≡ probability_at_of h skip_probability_of
    → ◌≡◌ {A = Announced} (record { map = m; map_probabilities = a ∷ b ∷ c ∷ []; skips = k; skip_probability = p }) (announced_of h)
unfolding announced_of
announced_is h e₁ e₂ e₃ e₄ e₅ e₆ = rw (e₁, e₂, e₃, e₄, e₅, e₆)

pub frame_is : (h : List ℤ) {a b c d : Factors} {m n : List ℕ} {s : ℕ} {k : Announced}
    → a ≡ factors_of_of h 0 → b ≡ factors_of_of h 1 → c ≡ factors_of_of h 2 → d ≡ factors_of_of h 3
    → m ≡ levels_of h false → n ≡ levels_of h true → s ≡ up_to 255 (entry h sharpness) → k ≡ announced_of h
    → ◌≡◌ {A = Frame} (record { factors = a ∷ b ∷ c ∷ d ∷ []; large = m; small = n; sharp = s; announced = k }) (frame_of h)
unfolding frame_of
frame_is h e₁ e₂ e₃ e₄ e₅ e₆ e₇ e₈ = rw (e₁, e₂, e₃, e₄, e₅, e₆, e₇, e₈)

-- ---- a frame in range: probabilities are bytes, levels are at most 63
pub record Sound (f : Frame) : Type 0 where
  pub levels : (small : Bool) (i : ℕ) → level_at f small i ≤ 63
  pub announced : Probabilities f.announced

three_bytes_lem : (a b c : ℕ) → a < 256 → b < 256 → c < 256 → (i : ℕ) → get_or (a ∷ b ∷ c ∷ []) i 0 < 256
three_bytes_lem a b c p q r zero = p
three_bytes_lem a b c p q r (suc zero) = q
three_bytes_lem a b c p q r (suc (suc zero)) = r
three_bytes_lem a b c p q r (suc (suc (suc i))) = omega arith

pub announced_bytes : (h : List ℤ) → Probabilities (announced_of h)
unfolding announced_of
announced_bytes h =
    record {
      map = three_bytes_lem _ _ _ (probability_below (entry h map_probability)) (probability_below (entry h (map_probability + 1))) (probability_below (entry h (map_probability + 2)));
      skip = probability_below (entry h skip_probability_of);
    }

-- ---- the public call
pub frame_good : (h : List ℤ) → header_of h ≡ true → framed_of h ≡ Some (frame_of h)
unfolding framed_of
frame_good h e = rw (e, framed_of)

pub frame_refused_lem : (h : List ℤ) → header_of h ≡ false → framed_of h ≡ None
unfolding framed_of
frame_refused_lem h e = rw (e, framed_of)

-- as a caller that knows its header finds it
module _ (h : List ℤ) (e : header_of h ≡ true) {o : Option Frame} (k : o ≡ framed_of h) where
  pub frame_taken : {f : Frame} → o ≡ Some f → f ≡ frame_of h
  frame_taken {f} g = let z = frame_good h e in cc

-- ---- what a macroblock reads of it
module _ (h : List ℤ) where
  four_levels : (small : Bool) (i : ℕ) → get_or (levels_of h small) i 0 ≤ 63
  four_levels small zero = level_in h 0 small
  four_levels small (suc zero) = level_in h 1 small
  four_levels small (suc (suc zero)) = level_in h 2 small
  four_levels small (suc (suc (suc zero))) = level_in h 3 small
  four_levels small (suc (suc (suc (suc i)))) = omega arith

  -- its levels are at most 63
  pub frame_levels : (small : Bool) (i : ℕ) → level_at (frame_of h) small i ≤ 63
  unfolding frame_of
  frame_levels true i = four_levels true i
  frame_levels false i = four_levels false i

  -- they are those of the segment, and so are its factors
  level_at_lem : (small : Bool) (i : ℕ) → i < 4 → get_or (levels_of h small) i 0 ≡ level_of_of h i small
  level_at_lem small zero l = refl
  level_at_lem small (suc zero) l = refl
  level_at_lem small (suc (suc zero)) l = refl
  level_at_lem small (suc (suc (suc zero))) l = refl
  level_at_lem small (suc (suc (suc (suc i)))) l = absurd (omega arith)

  pub frame_level_lem : (small : Bool) (segment : ℕ) → segment < 4 → level_at (frame_of h) small segment ≡ level_of_of h segment small
  unfolding frame_of
  frame_level_lem true segment l = level_at_lem true segment l
  frame_level_lem false segment l = level_at_lem false segment l

  pub frame_factors : (segment : ℕ) → segment < 4 → factors_at (frame_of h) segment ≡ factors_of_of h segment
  unfolding frame_of
  frame_factors zero l = refl
  frame_factors (suc zero) l = refl
  frame_factors (suc (suc zero)) l = refl
  frame_factors (suc (suc (suc zero))) l = refl
  frame_factors (suc (suc (suc (suc i)))) l = absurd (omega arith)

  pub frame_sharp : (frame_of h).sharp ≡ up_to 255 (entry h sharpness)
  unfolding frame_of
  frame_sharp = refl

  pub frame_announced : (frame_of h).announced ≡ announced_of h
  unfolding frame_of
  frame_announced = refl

  pub frame_sound : Sound (frame_of h)
  frame_sound = record { levels = frame_levels; announced = rw frame_announced (announced_bytes h) }
