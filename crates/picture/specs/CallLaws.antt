-- The laws of the picture call: a refused argument, and what good arguments give to the first macroblock.
use Rattle.std.specs.Prelude.{◌*◌, ◌/◌, ◌≡◌}
use Rattle.numbers.specs.Words.{Some, ℕ, zero, suc, arith, refl, sym, ◌∙◌, ap, List, length, replicate, length-replicate, Err}
use Rattle.reader.specs.Reading.{no_reader_of}
use Rattle.reader.specs.ReadingLaws.{Bytes}
use Rattle.coefficients.specs.Block.{header_table, table_of}
use Rattle.coefficients.specs.BlockLaws.{table_taken}
use Rattle.coefficients.specs.BlockLaws.{length_header, header_bytes}
use Rattle.lent.specs.ColumnsLaws.{columns_empty}
use Rattle.lent.specs.SizesLaws.{luma_area, chroma_area}
use Rattle.header.specs.declared.frame.Frame.{Frame}
use Rattle.header.specs.Frame.{frame_of, framed_of}
use Rattle.header.specs.FrameLaws.{frame_good, frame_sound}
use Rattle.tile.specs.PartitionsLaws.{readers_length}
use Rattle.tile.specs.Tile.{blocks_of}
use Rattle.choices.specs.declared.answer.Stop.TheVariants as Stop
use Rattle.lent.specs.Memory.{Memory, sizes_of, blank_of}
use Rattle.choices.specs.Choices.{named, Call, refusal_of}
use Rattle.choices.specs.ChoicesLaws.{fine_side, fine_count, fine_lengths, fine_header, fine_partitions, fine_readers}
use Rattle.picture.specs.Picture.{Picture, Ended, cut_out, pictured_of, start_of, run_of, picture_of, Shared, Live}

module _ (t : Call) (m : Memory) {n : ℕ} (e : n ≡ refusal_of t (sizes_of m)) where
  pub picture_bad : (n ≡ 0 → ⊥) → record { answer = Err (Stop.Refused (named n)); mem = m } ≡ picture_of t m
  unfolding picture_of
  picture_bad f = go n e f
    where
      go : (k : ℕ) → k ≡ refusal_of t (sizes_of m) → (k ≡ 0 → ⊥) → record { answer = Err (Stop.Refused (named k)); mem = m } ≡ picture_of t m
      go zero e f = absurd (f refl)
      go (suc k) e f = rw (← e, picture_of)

  pub picture_good : n ≡ 0 → picture_of t m ≡ run_of (blocks_of t.tile.width t.tile.height) (pictured_of t) 0 (start_of t.bytes t.tile (blank_of m))
  unfolding picture_of
  picture_good f = let z : refusal_of t (sizes_of m) ≡ 0 = sym e ∙ f in rw (z, picture_of)

half : (n : ℕ) → n * 8 ≡ n * 16 / 2
half n = omega arith

-- ---- good arguments
module _ (t : Call) (m : Memory) (e : refusal_of t (sizes_of m) ≡ 0) where
  pub shared_start : Shared (pictured_of t)
  shared_start = record {
    least = (fine_count t (sizes_of m) e).least;
    most = (fine_count t (sizes_of m) e).most;
    size = length_header t.header;
    bytes = header_bytes t.header;
    sound = frame_sound t.header;
    wide = omega (arith, (fine_side t (sizes_of m) e).width.most);
    high = omega (arith, (fine_side t (sizes_of m) e).height.most);
  }

  filled_long : (l : List ℕ) (x : ℕ) {n : ℕ} → length l ≡ n → length (replicate (length l) x) ≡ n
  filled_long l x f = length-replicate (length l) x ∙ f

  pub live_start : Bytes t.bytes → Live (pictured_of t) (start_of t.bytes t.tile (blank_of m))
  live_start b =
      let s = fine_side t (sizes_of m) e in
      let halved : t.tile.height / 16 * 8 * (t.tile.width / 16 * 8) ≡ t.tile.height / 16 * 8 * (t.tile.width / 16 * 16 / 2) = ap (λ (n : ℕ). t.tile.height / 16 * 8 * n) (half (t.tile.width / 16)) in
      let z = (fine_lengths t (sizes_of m) e).sizes in
      record {
        reader = (fine_partitions t (sizes_of m) e).reader;
        eight = readers_length t.bytes t.tile;
        tokens = λ q h. fine_readers t (sizes_of m) e b q no_reader_of h;
        left = refl;
        beside = record { modes = refl; flags = refl };
        contexts = columns_empty t.form (length m.columns);
        y = filled_long m.y 128 (z.y ∙ luma_area s);
        u = filled_long m.u 128 (z.u ∙ chroma_area s ∙ halved);
        v = filled_long m.v 128 (z.v ∙ chroma_area s ∙ halved);
        columns = filled_long m.columns 0 z.columns;
        modes = filled_long m.modes 0 z.modes;
        strengths = filled_long m.strengths 0 z.strengths;
      }

  -- as the code finds them: the frame and the table made of the header, the memory filled
  module _ {f : Frame} {x : List ℕ} {b : Memory} (g : Some f ≡ framed_of t.header) (y : Some x ≡ table_of t.header) (h : b ≡ blank_of m) where
    abbrev found : Picture
    found = cut_out t.form t.bytes t.tile f x

    frame_found : f ≡ frame_of t.header
    frame_found = let z = frame_good t.header (fine_header t (sizes_of m) e) in cc

    table_found : x ≡ header_table t.header
    table_found = (table_taken t.header y refl).1

    pub picture_found : found ≡ pictured_of t
    picture_found = λ i. cut_out t.form t.bytes t.tile (frame_found i) (table_found i)

    pub shared_found : Shared found
    shared_found = rw picture_found shared_start

    pub live_found : Bytes t.bytes → Live found (start_of t.bytes t.tile b)
    live_found y = rw (picture_found, h) (live_start y)

    pub run_found : {E : Ended} → E ≡ run_of (blocks_of t.tile.width t.tile.height) found 0 (start_of t.bytes t.tile b) → E ≡ picture_of t m
    run_found q =
        q
        ∙ (λ i. run_of (blocks_of t.tile.width t.tile.height) (picture_found i) 0 (start_of t.bytes t.tile (h i)))
        ∙ sym (picture_good t m (sym e) refl)
