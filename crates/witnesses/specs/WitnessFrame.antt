-- A key frame of 16 by 16 samples that is taken, and the same cut in its token partition: computed. So what is promised of frames is not about nothing.
use Rattle.std.specs.Prelude.{◌*◌, ◌/◌, ◌≡◌, ◌∷◌, ◌++◌}
use Rattle.numbers.specs.Words.{ℕ, zero, suc, arith, refl, sym, ◌∙◌, ap, List, [], get_or, replicate, build, get_or_constant, pos}
use Rattle.reader.specs.Reading.{symbol_of, split_of, grow, decided_of, run}
use Rattle.reader.specs.Extra.{extra_from}
use Rattle.tile.specs.Tile.{span_at_of, contents_of}
use Rattle.frame.specs.Header.{literal, when, signed, map_prob_of, update, segments, filter, quantizers, prob, probs_from, probs, header}
use Rattle.frame.specs.Tag.{two_at, three_at, tag_fine}
use Rattle.frame.specs.Places.{partition_size, partition_start, length_of, partition_span, token_spans, tokens_inside_of}
use Rattle.frame.specs.declared.take.Taken.{Taken}
use Rattle.frame.specs.Take.{nothing_taken, whole_of, partitions_placed, given_header, taken_of}
use Rattle.frame.specs.Tables.{default_probs, update_probs}
use Rattle.promises.specs.KeyFrame.{frame_tile, Shows, AlikeFrames}
use Rattle.promises.proofs.KeyFrameLaws.{cut_frames}
use Rattle.witnesses.specs.Witness.{held_of, bytes_by}

-- its tag, start code and sizes
abbrev pub tag : List ℕ
tag = 16 ∷ 8 ∷ 0 ∷ 157 ∷ 1 ∷ 42 ∷ 16 ∷ 0 ∷ 16 ∷ 0 ∷ []

-- with a first partition of 64 zeros and a token partition of 32
abbrev pub small_frame : List ℕ
small_frame = tag ++ replicate 96 0

-- the number, the sides, the count, and where the token partition starts
abbrev pub shape : Taken → List ℕ
shape t = let a = t.answer in a.number ∷ a.tile.width ∷ a.tile.height ∷ a.tile.count ∷ (span_at_of a.tile 0).start ∷ []

pub frame_taken_lem : shape (taken_of small_frame) ≡ 0 ∷ 16 ∷ 16 ∷ 1 ∷ 74 ∷ []
unfolding taken_of given_header partitions_placed whole_of nothing_taken tokens_inside_of token_spans partition_span length_of partition_start partition_size tag_fine two_at three_at header probs probs_from prob quantizers filter segments update map_prob_of signed literal when extra_from run symbol_of split_of grow decided_of contents_of span_at_of build update_probs default_probs
frame_taken_lem = refl

-- it is shown, in memory of its lengths
pub frame_shows : Shows small_frame (replicate 1096 (pos 0)) (held_of 1 7)
frame_shows =
    let w : 16 ≡ (frame_tile small_frame).width = sym (ap (λ (l : List ℕ). get_or l 1 0) frame_taken_lem) in
    let h : 16 ≡ (frame_tile small_frame).height = sym (ap (λ (l : List ℕ). get_or l 2 0) frame_taken_lem) in
    record {
      entries = refl;
      taken = ap (λ (l : List ℕ). get_or l 0 0) frame_taken_lem;
      sized = record {
        y = λ i. w i * h i;
        u = λ i. w i / 2 * (h i / 2);
        v = λ i. w i / 2 * (h i / 2);
        columns = λ i. 4 * (w i / 16);
        modes = λ i. 20 * (w i / 16 * (h i / 16));
        strengths = λ i. 6 * (w i / 16 * (h i / 16));
      };
    }

-- ---- the same without its token partition, which is the last: it is taken too, and alike in all else
abbrev pub cut_frame : List ℕ
cut_frame = tag ++ replicate 64 0

zeros_alike : (l : List ℕ) (i : ℕ) → get_or (l ++ replicate 96 0) i 0 ≡ get_or (l ++ replicate 64 0) i 0
zeros_alike [] i = get_or_constant 96 i 0 ∙ sym (get_or_constant 64 i 0)
zeros_alike (x ∷ l) zero = refl
zeros_alike (x ∷ l) (suc i) = zeros_alike l i

pub frame_cut : ((taken_of cut_frame).answer.number ≡ 0) × AlikeFrames 0 small_frame cut_frame
frame_cut =
    let start : (span_at_of (frame_tile small_frame) 0).start ≡ 74 = ap (λ (l : List ℕ). get_or l 4 0) frame_taken_lem in
    cut_frames 0 small_frame cut_frame (bytes_by small_frame refl) frame_shows.taken
    (record { last = sym (ap (λ (l : List ℕ). get_or l 3 0) frame_taken_lem); upto = rw start (omega arith); same = λ i h. zeros_alike tag i })
