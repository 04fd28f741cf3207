-- The writer's laws: the parts of a file stored one behind the other, the answer as the code finds it, and what an answer says.
use Rattle.std.specs.Prelude.{◌+◌, ◌-◌, ◌%◌, ◌≤◌, ◌<◌, ◌≡◌, ◌⊎◌, ◌∷◌, ◌++◌}
use Rattle.numbers.specs.Words.{ℕ, zero, suc, Result, Ok, Err, arith, refl, sym, ◌∙◌, ap, subst, inl, inr, ⊎_elim, lt_or, le-leb, lt-leb, List, [], append_assoc, append-nil, length, take, drop, replicate, drop_of_length-le, length-append, length-drop, length-replicate, drop-append-add, drop-drop, take_all, take-append_seam, take-length}
use Rattle.webp.specs.declared.write.WrapError.TheVariants as W
use Rattle.webp.specs.Webp.{WrapError, pad_of, riff_size, most_size, file_of, WriteEnded, written_into, wrap_of}
unfoldable pub use Rattle.webp.specs.Write.{head_of, laid}

-- ---- stores one behind the other
-- the same as the code finds it: b copied over the front of what follows the place
pub laid_is : (out : List ℕ) (at : ℕ) (b : List ℕ) {y : List ℕ} → at + length b ≤ length out → y ≡ take (length b) b ++ drop (length b) (take (length out - at) (drop at out))
    → take at out ++ (y ++ drop (length out - at) (drop at out)) ≡ laid out at b
unfolding laid
laid_is out at b h e =
    let l : length (drop at out) ≤ length out - at = rw length-drop (omega arith) in
    rw (e, take-length b, take_all (length out - at) (drop at out) l, drop_of_length-le (drop at out) l, append-nil, drop-drop)

-- behind a, where a ends
laid_on : (a d b : List ℕ) (at : ℕ) → length a ≡ at → laid (a ++ d) at b ≡ a ++ b ++ drop (length b) d
unfolding laid
laid_on a d b at e = rw (← e, take-append_seam a d, drop-append-add a d (length b), append_assoc)

-- ---- the file
module _ (frame : List ℕ) where
  pub file_parts : head_of (length frame) ++ frame ++ pad_of (length frame) ≡ file_of frame
  unfolding head_of file_of
  file_parts = refl

  pub file_length : length (file_of frame) ≡ 20 + length frame + length frame % 2
  unfolding file_of
  file_length = omega (arith, length-append frame (pad_of (length frame)), length-replicate {A = ℕ} (length frame % 2) 0)

pub head_length : (n : ℕ) → length (head_of n) ≡ 20
unfolding head_of
head_length n = refl

-- one byte of 0, from its place 0 up to n % 2
pad_is : (n : ℕ) → take {A = ℕ} (n % 2 - 0) (0 ∷ []) ≡ pad_of n
pad_is n = ap (λ (k : ℕ). take {A = ℕ} k (0 ∷ [])) {x = n % 2 - 0} {y = n % 2} (omega arith) ∙ few (n % 2) (omega arith)
  where
    few : (k : ℕ) → k < 2 → take {A = ℕ} k (0 ∷ []) ≡ replicate k 0
    few zero h = refl
    few (suc zero) h = refl
    few (suc (suc k)) h = absurd (omega arith)

-- what stands before the frame, the frame and the pad stored one behind the other
file_laid : (frame out : List ℕ) → laid (laid (laid out 0 (head_of (length frame))) 20 frame) (20 + length frame) (pad_of (length frame)) ≡ file_of frame ++ drop (length (file_of frame)) out
file_laid frame out =
    let n : ℕ = length frame in
    let a : laid out 0 (head_of n) ≡ head_of n ++ drop 20 out = laid_on [] out (head_of n) 0 refl ∙ ap (λ (k : ℕ). head_of n ++ drop k out) (head_length n) in
    let b : laid (head_of n ++ drop 20 out) 20 frame ≡ head_of n ++ frame ++ drop n (drop 20 out) = laid_on (head_of n) (drop 20 out) frame 20 (head_length n) in
    let e : length (head_of n ++ frame) ≡ 20 + n = length-append (head_of n) frame ∙ ap (λ (k : ℕ). k + n) (head_length n) in
    let c : laid (head_of n ++ frame ++ drop n (drop 20 out)) (20 + n) (pad_of n) ≡ head_of n ++ frame ++ pad_of n ++ drop (length (pad_of n)) (drop n (drop 20 out)) = laid_on (head_of n ++ frame) (drop n (drop 20 out)) (pad_of n) (20 + n) e in
    rw (a, b, c, drop-drop n 20 out, drop-drop (length (pad_of n)) (20 + n) out, length-replicate {A = ℕ} (n % 2) 0, file_parts frame, file_length frame)

-- ---- the writer's answer, as the code finds it
module _ (frame out : List ℕ) where
  pub wrap_long : 4294967274 < length frame → record { answer = Err W.TooLong; out = out } ≡ wrap_of frame out
  unfolding wrap_of
  wrap_long h = let l : 4294967286 < riff_size (length frame) = omega arith in rw (lt-leb _ _ l, wrap_of)

  wrap_fits : length frame ≤ 4294967274 → wrap_of frame out ≡ written_into (file_of frame) out
  unfolding wrap_of
  wrap_fits h = let l : riff_size (length frame) ≤ 4294967286 = omega arith in rw (le-leb _ _ l, wrap_of)

  pub wrap_small : length frame ≤ 4294967274 → length out < 20 + length frame + length frame % 2 → record { answer = Err W.NoRoom; out = out } ≡ wrap_of frame out
  unfolding written_into
  wrap_small h k = let l : length out < length (file_of frame) = rw (file_length frame) k in rw (wrap_fits h, lt-leb _ _ l, written_into)

  pub wrap_good : length frame ≤ 4294967274 → 20 + length frame + length frame % 2 ≤ length out → record { answer = Ok (20 + length frame + length frame % 2); out = file_of frame ++ drop (length (file_of frame)) out } ≡ wrap_of frame out
  unfolding written_into
  wrap_good h k = let l : length (file_of frame) ≤ length out = rw (file_length frame) k in rw (wrap_fits h, le-leb _ _ l, written_into, file_length frame)

  pub wrap_laid : {a b c d : List ℕ} → length frame ≤ 4294967274 → 20 + length frame + length frame % 2 ≤ length out
      → a ≡ head_of (length frame) → b ≡ laid out 0 a → c ≡ laid b 20 frame → d ≡ laid c (20 + length frame) (take (length frame % 2 - 0) (0 ∷ []))
      → record { answer = Ok (20 + length frame + length frame % 2); out = d } ≡ wrap_of frame out
  wrap_laid {d} h k e f g t =
      let w : d ≡ file_of frame ++ drop (length (file_of frame)) out = rw (t, pad_is (length frame), g, f, e) (file_laid frame out) in
      rw w (wrap_good h k)

-- ---- what an answer of the writer says: the file at the start of the room, or the reason and the room as it was
pub record Whole (frame out : List ℕ) (n : ℕ) (after : List ℕ) : Type 0 where
  pub short : length frame ≤ 4294967274
  pub room : length (file_of frame) ≤ length out
  pub count : n ≡ length (file_of frame)
  pub holds : after ≡ file_of frame ++ drop n out

pub record Not (frame out : List ℕ) (e : WrapError) (after : List ℕ) : Type 0 where
  pub why : ((e ≡ W.TooLong) × (most_size < riff_size (length frame))) ⊎ ((e ≡ W.NoRoom) × (riff_size (length frame) ≤ most_size) × (length out < length (file_of frame)))
  pub same : after ≡ out

module _ (frame out : List ℕ) where
  abbrev Said : Result ℕ WrapError → List ℕ → Type 0
  Said (Ok n) after = Whole frame out n after
  Said (Err e) after = Not frame out e after

  said : (e : WriteEnded) → e ≡ wrap_of frame out → Said e.answer e.out → Said (wrap_of frame out).answer (wrap_of frame out).out
  said e p = subst (λ (r : WriteEnded). Said r.answer r.out) p

  wrap_said : Said (wrap_of frame out).answer (wrap_of frame out).out
  wrap_said =
      let l = file_length frame in
      ⊎_elim
      (λ h. said _ (wrap_long frame out h) (record { why = inl (refl, omega arith); same = refl }))
      (λ h. ⊎_elim
      (λ k. said _ (wrap_small frame out h k) (record { why = inr (refl, omega arith, omega arith); same = refl }))
      (λ k. said _ (wrap_good frame out h k) (record { short = h; room = omega arith; count = sym l; holds = ap (λ (n : ℕ). file_of frame ++ drop n out) l }))
      (lt_or (length out) (20 + length frame + length frame % 2)))
      (lt_or 4294967274 (length frame))

  pub written : {n : ℕ} {after : List ℕ} → wrap_of frame out ≡ record { answer = Ok n; out = after } → Whole frame out n after
  written e = subst (λ (r : WriteEnded). Said r.answer r.out) e wrap_said

  pub not_written : {w : WrapError} {after : List ℕ} → wrap_of frame out ≡ record { answer = Err w; out = after } → Not frame out w after
  not_written e = subst (λ (r : WriteEnded). Said r.answer r.out) e wrap_said
