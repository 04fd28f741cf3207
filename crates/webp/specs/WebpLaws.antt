-- Both ways: a written file is found, and a found file is the one that would be written.
use Rattle.std.specs.Prelude.{◌+◌, ◌*◌, ◌/◌, ◌%◌, ◌≤◌, ◌<◌, ◌≡◌, ◌&&◌, ◌∷◌, ◌++◌}
use Rattle.numbers.specs.Words.{ℕ, Option, Some, None, Ok, div-add-mod, div-div-eq-div-mul, mod-eq_of_lt, arith, refl, sym, ◌∙◌, ap, Bool, true, ⊎_elim, eqb, leb, eq_or, both_left, both_right, both_true, eq-eqb, eqb-true, List, [], append_assoc, length, get_or, take, drop, length-append, length-drop, take-append-drop, drop-drop, get_or-append-add, get_or-drop, get_or-take, length-take-le, take-append_seam, ◌∷≡◌, build_listed, built, get_or_constant, constant, byte_at}
pub use Rattle.numbers.specs.Lists.{Bytes}
use Rattle.webp.specs.declared.read.FindError.{FindError}
use Rattle.webp.specs.Webp.{uint32_at, uint32_of, riff, webp, vp8, four_cc_at, pad_of, riff_size, file_of, marked_of, sized_of, lossy_of, chunk_size, filled_of, found_refusal, found_at, find_of, found_start_of, found_length_of}
use Rattle.webp.specs.ReadLaws.{Fits, fits, four_cc_long, sized_long, filled_even, filled_pad, refusal_none, find_good, find_bad}
use Rattle.webp.specs.WriteLaws.{head_of, head_length, file_parts, file_length}

-- ---- sizes
-- the four bytes of a number are that number, and four bytes are those of their number
uint32_back : (n : ℕ) → n < 4294967296 → n % 256 + 256 * (n / 256 % 256) + 65536 * (n / 65536 % 256) + 16777216 * (n / 16777216 % 256) ≡ n
uint32_back n h =
    let e : n / 256 / 256 ≡ n / 65536 = div-div-eq-div-mul n 256 256 in
    let f : n / 65536 / 256 ≡ n / 16777216 = div-div-eq-div-mul n 65536 256 in
    let l : n / 16777216 < 256 = omega arith in
    omega (arith, e, f, mod-eq_of_lt l, div-add-mod n 256, div-add-mod (n / 256) 256, div-add-mod (n / 65536) 256)

uint32_again : (a b c d : ℕ) → a < 256 → b < 256 → c < 256 → d < 256 → a ∷ b ∷ c ∷ d ∷ [] ≡ uint32_of (a + 256 * b + 65536 * c + 16777216 * d)
uint32_again a b c d p q r t = omega arith ∷≡ omega arith ∷≡ omega arith ∷≡ omega arith ∷≡ refl

-- ---- a written file is found
four_cc_yes : (s : List ℕ) (i : ℕ) (c : List ℕ) → i + 4 ≤ length s → byte_at s i ≡ get_or c 0 0 → byte_at s (i + 1) ≡ get_or c 1 0 → byte_at s (i + 2) ≡ get_or c 2 0 → byte_at s (i + 3) ≡ get_or c 3 0 → four_cc_at s i c ≡ true
four_cc_yes s i c h p q r t =
    sym (four_cc_long s i c h)
    ∙ both_true (both_true (both_true (eq-eqb _ _ p) (eq-eqb _ _ q)) (eq-eqb _ _ r)) (eq-eqb _ _ t)

module _ (frame : List ℕ) (fits : length frame ≤ 4294967274) where
  -- its two sizes, as they are read
  file_riff : uint32_at (file_of frame) 4 ≡ riff_size (length frame)
  unfolding uint32_at file_of
  file_riff = uint32_back (riff_size (length frame)) (omega arith)

  file_size : chunk_size (file_of frame) ≡ length frame
  unfolding uint32_at file_of
  file_size = uint32_back (length frame) (omega arith)

  file_marked : marked_of (file_of frame) ≡ true
  unfolding marked_of file_of
  file_marked =
      both_true
      (four_cc_yes (file_of frame) 0 riff (rw (file_length frame) (omega arith)) refl refl refl refl)
      (four_cc_yes (file_of frame) 8 webp (rw (file_length frame) (omega arith)) refl refl refl refl)

  file_sized : sized_of (file_of frame) ≡ true
  file_sized =
      let h : 8 ≤ length (file_of frame) = rw (file_length frame) (omega arith) in
      let e : riff_size (length frame) + 8 ≡ length (file_of frame) = rw (file_length frame) (omega arith) in
      sym (sized_long (file_of frame) h (sym file_riff)) ∙ eq-eqb _ _ e

  file_lossy : lossy_of (file_of frame) ≡ true
  unfolding lossy_of file_of
  file_lossy = four_cc_yes (file_of frame) 12 vp8 (rw (file_length frame) (omega arith)) refl refl refl refl

  -- the byte behind the frame is the pad byte, or there is none
  file_behind : byte_at (file_of frame) (20 + length frame) ≡ 0
  file_behind =
      let n : ℕ = length frame in
      let e : 20 + n ≡ length (head_of n ++ frame) + 0 = omega (arith, length-append (head_of n) frame, head_length n) in
      rw (← file_parts frame, e) (get_or-append-add (head_of n ++ frame) (pad_of n) 0 0 ∙ get_or_constant (n % 2) 0 0)

  file_filled : filled_of (file_of frame) ≡ true
  file_filled =
      let l : 20 ≤ length (file_of frame) = rw (file_length frame) (omega arith) in
      ⊎_elim
      (λ e. sym (filled_even (file_of frame) l (sym file_size) (sym (file_length frame)) e))
      (λ e. sym (filled_pad (file_of frame) l (sym file_size) (sym (file_length frame)) e) ∙ eq-eqb _ _ file_behind)
      (eq_or (length frame % 2) 0)

  pub file_found : find_of (file_of frame) ≡ Ok (found_at 20 (length frame))
  file_found =
      sym (find_good (file_of frame) (sym (refusal_none _ _ _ _ file_marked file_sized file_lossy file_filled))) ∙ ap (λ n. Ok (found_at 20 n)) file_size

  pub file_frame : take (length frame) (drop 20 (file_of frame)) ≡ frame
  unfolding file_of
  file_frame = take-append_seam frame (pad_of (length frame))

-- ---- a found file is the one that would be written
-- four bytes from a place on
unfoldable four : List ℕ → ℕ → List ℕ
four s i = byte_at s i ∷ byte_at s (i + 1) ∷ byte_at s (i + 2) ∷ byte_at s (i + 3) ∷ []

module _ (s : List ℕ) (i : ℕ) where
  four_mark : (c : List ℕ) → four_cc_at s i c ≡ true → four s i ≡ get_or c 0 0 ∷ get_or c 1 0 ∷ get_or c 2 0 ∷ get_or c 3 0 ∷ []
  unfolding four four_cc_at
  four_mark c e =
      let x : Bool = eqb (byte_at s i) (get_or c 0 0) in
      let y : Bool = eqb (byte_at s (i + 1)) (get_or c 1 0) in
      let z : Bool = eqb (byte_at s (i + 2)) (get_or c 2 0) in
      let all = both_right (leb (i + 4) (length s)) _ e in
      let three = both_left (x && y && z) _ all in
      let two = both_left (x && y) z three in
      eqb-true _ _ (both_left x y two) ∷≡ eqb-true _ _ (both_right x y two) ∷≡ eqb-true _ _ (both_right (x && y) z three) ∷≡ eqb-true _ _ (both_right (x && y && z) _ all) ∷≡ refl

  four_size : Bytes s → four s i ≡ uint32_of (uint32_at s i)
  unfolding four uint32_at
  four_size b = uint32_again _ _ _ _ (b i) (b (i + 1)) (b (i + 2)) (b (i + 3))

module _ (s : List ℕ) (f : Fits s) where
  front : take 20 s ≡ four s 0 ++ four s 4 ++ four s 8 ++ four s 12 ++ four s 16
  unfolding four
  front =
      built (take 20 s) 20 (byte_at s) 0 (length-take-le 20 s f.long) (λ i h. get_or-take 20 s i 0 h)
      ∙ build_listed 20 (byte_at s)

  behind : drop (20 + chunk_size s) s ≡ pad_of (chunk_size s)
  behind = constant (drop (20 + chunk_size s) s) (chunk_size s % 2) 0 (rw length-drop (omega (arith, f.ends))) zero_at
    where
      zero_at : (i : ℕ) → i < chunk_size s % 2 → get_or (drop (20 + chunk_size s) s) i 0 ≡ 0
      zero_at i h =
          ⊎_elim
          (λ e. absurd (omega arith))
          (λ e. let z : 20 + chunk_size s + i ≡ 20 + chunk_size s = omega arith in rw (get_or-drop (20 + chunk_size s) s i 0, z) e)
          f.pad

  head_read : Bytes s → take 20 s ≡ head_of (chunk_size s)
  unfolding head_of
  head_read b =
      let e : uint32_at s 4 ≡ riff_size (chunk_size s) = omega (arith, f.size, f.ends) in
      front
      ∙ rw (four_mark s 0 riff f.riff, four_size s 4 b, four_mark s 8 webp f.webp, four_mark s 12 vp8 f.vp8, four_size s 16 b, e)

  frame_length : length (take (chunk_size s) (drop 20 s)) ≡ chunk_size s
  frame_length = length-take-le (chunk_size s) (drop 20 s) (rw length-drop (omega (arith, f.ends)))

  fits_file : Bytes s → file_of (take (chunk_size s) (drop 20 s)) ≡ s
  fits_file b =
      let n : ℕ = chunk_size s in
      sym (file_parts (take n (drop 20 s)))
      ∙ rw (frame_length, ← head_read b, ← behind, ← drop-drop n 20 s, append_assoc, take-append-drop n (drop 20 s), take-append-drop 20 s)

-- what an answer of the reader says
pub record Place (s : List ℕ) (start len : ℕ) : Type 0 where
  pub first : start ≡ 20
  pub size : len ≡ chunk_size s
  pub fits : Fits s

pub found : (s : List ℕ) {start len : ℕ} → find_of s ≡ Ok (found_at start len) → Place s start len
found s {start} {len} e = go (found_refusal s) refl
  where
    go : (r : Option FindError) → found_refusal s ≡ r → Place s start len
    go None z = let g = find_good s z in record { first = ap found_start_of (sym (g ∙ e)); size = ap found_length_of (sym (g ∙ e)); fits = fits s z }
    go (Some w) z = let g = find_bad s z in absurd cc

module _ (s : List ℕ) {start len : ℕ} (e : find_of s ≡ Ok (found_at start len)) where
  pub found_length : length s ≡ 20 + length (take len (drop start s)) + length (take len (drop start s)) % 2
  found_length =
      let p = found s e in
      rw (p.first, p.size, frame_length s p.fits) (sym p.fits.ends)

  pub found_file : Bytes s → file_of (take len (drop start s)) ≡ s
  found_file b = let p = found s e in rw (p.first, p.size) (fits_file s p.fits b)
