-- M-112: decoding the recoded tile gives the same answer and the same memory. For every tile that is answered 0, whatever lies behind the
-- written bytes in the room.
use Rattle.std.specs.Prelude.{◌+◌, ◌≤◌, ◌<◌, ◌≡◌, ◌++◌}
use Rattle.numbers.specs.Words.{ℕ, suc, arith, refl, sym, ◌∙◌, ap, subst, ⊎_elim, lt_or, le-leb, lt-leb, List, [], append_assoc, length, drop, length-append, drop-append_seam}
use Rattle.reader.specs.ReadingLaws.{Bytes, trace_follows}
use Rattle.lent.specs.Memory.{Memory, sizes_of}
use Rattle.tile.specs.Tile.{contents_of}
use Rattle.choices.specs.Choices.{Call, refusal_of, number_of}
use Rattle.choices.specs.ChoicesLaws.{fine_partitions}
use Rattle.picture.specs.Picture.{Ended, picture_of}
use Rattle.writer.specs.Encoder.{encode_of}
use Rattle.recode.specs.Recode.{first_of, one_partition, recoded_bytes, one_tile_of, recoded_tile, recoded_done, recoded_refused, recoded_into, recode_of, RecodeEnded, recode_ended}
use Rattle.recode_frame.specs.RecodeFrame.{all_modes}
use Rattle.recode_frame.specs.MovedLaws.{call_modes}
use Rattle.recode_frame.specs.FrameLaws.{contents_between}
use Rattle.promises.specs.Refusals.{old_memory_does_not_matter}
use Rattle.promises.specs.RecodedLaws.{Lies, not_refused, moved_fine, moved_picture, moved_tokens}
use Rattle.recode.specs.declared.Recoded.{Recoded}

-- ---- the tile with one partition, and anything behind it
abbrev pub one_call : Call → Memory → (rest : List ℕ) → Call
one_call c m rest = record { bytes = recoded_bytes c m ++ rest; tile = recoded_tile c m; header = c.header; form = c.form }

module _ (c : Call) (m : Memory) (y : Bytes c.bytes) (z : number_of (picture_of c m).answer ≡ 0) (rest : List ℕ) where
  first_part : contents_of (recoded_bytes c m ++ rest) (record { start = 0; len = length (first_of c) }) ≡ first_of c
  first_part = ap (λ (l : List ℕ). contents_of l (record { start = 0; len = length (first_of c) })) (append_assoc (first_of c) (one_partition c m) rest) ∙ contents_between [] (first_of c) (one_partition c m ++ rest) refl

  lies : Lies c m (recoded_bytes c m ++ rest) (record { start = 0; len = length (first_of c) }) (record { start = length (first_of c); len = length (one_partition c m) }) c.tile.reader (first_of c)
  lies =
      let g = call_modes c m y z in
      let long : length (recoded_bytes c m ++ rest) ≡ length (first_of c) + length (one_partition c m) + length rest = length-append (recoded_bytes c m) rest ∙ ap (λ (n : ℕ). n + length rest) (length-append (first_of c) (one_partition c m)) in
      record {
        first_in = record { fits = omega (arith, long) };
        first_is = first_part;
        token_in = record { fits = omega (arith, long) };
        token_is = ap (λ (l : List ℕ). contents_of l (record { start = length (first_of c); len = length (one_partition c m) })) (append_assoc (first_of c) (one_partition c m) rest) ∙ contents_between (first_of c) (one_partition c m) rest refl;
        valid = (fine_partitions c (sizes_of m) (not_refused c m y z)).reader;
        last = g.last;
        modes = (trace_follows (all_modes c) (first_of c) c.tile.reader g.gives).1;
      }

  -- so it is recoded to the same bytes, and these are the same tile
  same_bytes : recoded_bytes (one_call c m rest) m ≡ recoded_bytes c m
  same_bytes = λ i. first_part i ++ encode_of (moved_tokens c m y z lies i)

  same_tile : recoded_tile (one_call c m rest) m ≡ recoded_tile c m
  same_tile = λ i. one_tile_of c.tile (length (first_part i)) (length (encode_of (moved_tokens c m y z lies i)))

-- THE THEOREM: the picture call on the result, with the same header, answers 0 and leaves the same samples, modes, strengths and columns
pub recoded_same : (c : Call) (m : Memory) (rest : List ℕ) → Bytes c.bytes → number_of (picture_of c m).answer ≡ 0 → picture_of (one_call c m rest) m ≡ picture_of c m
recoded_same c m rest y z = moved_picture c m y z (lies c m y z rest)

-- in any other memory of the same sizes too
pub recoded_anywhere : (c : Call) (m : Memory) (rest : List ℕ) → Bytes c.bytes → number_of (picture_of c m).answer ≡ 0 → (n : Memory) → sizes_of n ≡ sizes_of m → picture_of (one_call c m rest) n ≡ picture_of c m
recoded_anywhere c m rest y z n f =
    let g : refusal_of (one_call c m rest) (sizes_of m) ≡ 0 = moved_fine c m y z (lies c m y z rest) in
    old_memory_does_not_matter (one_call c m rest) n m (ap (refusal_of (one_call c m rest)) f ∙ g) g ∙ recoded_same c m rest y z

-- ---- the call's refusals and its room
-- the number of the picture call where it is not 0, its memory, and the room as it was
pub refused_as_picture : (c : Call) (m : Memory) (out : List ℕ) {n : ℕ} → number_of (picture_of c m).answer ≡ suc n → recode_of c m out ≡ recode_ended (recoded_refused (suc n)) (picture_of c m).mem out
unfolding recode_of
refused_as_picture c m out e = rw (e, recode_of)

-- 16 exactly where the written bytes exceed the room, which is then as it was
module _ (c : Call) (m : Memory) (out : List ℕ) (e : number_of (picture_of c m).answer ≡ 0) where
  here : recode_of c m out ≡ recoded_into c m (picture_of c m).mem out
  unfolding recode_of
  here = rw (e, recode_of)

  pub sixteen : length out < length (recoded_bytes c m) → recode_of c m out ≡ recode_ended (recoded_refused 16) (picture_of c m).mem out
  unfolding recoded_into
  sixteen h = here ∙ rw (lt-leb (length (recoded_bytes c m)) (length out) h, recoded_into)

  -- else the bytes at its start, and what lies behind them as it was
  pub written_so : length (recoded_bytes c m) ≤ length out → recode_of c m out ≡ recode_ended (recoded_done (recoded_tile c m)) (picture_of c m).mem (recoded_bytes c m ++ drop (length (recoded_bytes c m)) out)
  unfolding recoded_into
  written_so h = here ∙ rw (le-leb (length (recoded_bytes c m)) (length out) h, recoded_into)

  -- where the call answers 0 they fit
  pub fits : (recode_of c m out).answer.number ≡ 0 → length (recoded_bytes c m) ≤ length out
  fits f =
      ⊎_elim
      (λ (h : length out < length (recoded_bytes c m)). absurd (let z : 16 ≡ 0 = sym (ap (λ (x : RecodeEnded). x.answer.number) (sixteen h)) ∙ f in omega arith))
      (λ (h : length (recoded_bytes c m) ≤ length out). h)
      (lt_or (length out) (length (recoded_bytes c m)))

-- ---- the call on what was written: the tile over the room, with the same header
abbrev pub result_call : Call → RecodeEnded → Call
result_call c x = record { bytes = x.out; tile = x.answer.tile; header = c.header; form = c.form }

-- THE PROMISE: where the recode call answers 0, its result is decoded to the same
pub recode_decodes : (c : Call) (m : Memory) (out : List ℕ) → number_of (picture_of c m).answer ≡ 0 → Bytes c.bytes → (recode_of c m out).answer.number ≡ 0
    → picture_of (result_call c (recode_of c m out)) m ≡ picture_of c m
recode_decodes c m out e y f =
    ap (λ (x : RecodeEnded). picture_of (result_call c x) m) (written_so c m out e (fits c m out e f)) ∙ recoded_same c m (drop (length (recoded_bytes c m)) out) y e

again_written : (c : Call) (m : Memory) (rest : List ℕ) → Bytes c.bytes → number_of (picture_of c m).answer ≡ 0
    → let x = recode_ended (recoded_done (recoded_tile c m)) (picture_of c m).mem (recoded_bytes c m ++ rest) in recode_of (result_call c x) m x.out ≡ x
again_written c m rest y e =
    let bs : List ℕ = recoded_bytes c m in
    let u : Call = one_call c m rest in
    let p : picture_of u m ≡ picture_of c m = recoded_same c m rest y e in
    let b : recoded_bytes u m ≡ bs = same_bytes c m y e rest in
    written_so u m (bs ++ rest) (ap (λ (x : Ended). number_of x.answer) p ∙ e) (omega (arith, ap (λ (l : List ℕ). length l) b, length-append bs rest))
    ∙ (λ i. recode_ended (recoded_done (same_tile c m y e rest i)) (p i).mem (b i ++ drop (length (b i)) (bs ++ rest)))
    ∙ ap (λ (l : List ℕ). recode_ended (recoded_done (recoded_tile c m)) (picture_of c m).mem (bs ++ l)) (drop-append_seam bs rest)

-- THE PROMISE: recoding what was recoded changes nothing: into the same room it gives the same answer and the same memory, and leaves the same bytes
pub recode_again : (c : Call) (m : Memory) (out : List ℕ) → number_of (picture_of c m).answer ≡ 0 → Bytes c.bytes → (recode_of c m out).answer.number ≡ 0
    → recode_of (result_call c (recode_of c m out)) m (recode_of c m out).out ≡ recode_of c m out
recode_again c m out e y f =
    subst (λ (x : RecodeEnded). recode_of (result_call c x) m x.out ≡ x) (sym (written_so c m out e (fits c m out e f))) (again_written c m (drop (length (recoded_bytes c m)) out) y e)
