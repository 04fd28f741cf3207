-- The promises are not about nothing: small tiles of one macroblock in each row, whose calls are computed. Two of two rows differ in the first byte of
-- token partition 1, and in a third that partition was cut away: they meet every hypothesis of demand 3, so their first rows come out the same, and the
-- row below differs. One stops by 6, one by 7.
use Rattle.std.specs.Prelude.{◌+◌, ◌*◌, ◌<◌, ◌≡◌, ◌∷◌, ◌++◌}
use Rattle.numbers.specs.Words.{ℕ, zero, suc, arith, refl, true, ltb, ltb-true, List, [], length, replicate, build, placed, copied, all_of, all_of_any, ℤ, pos, clamp_z, up_to, wrap_z}
use Rattle.reader.specs.Reading.{Bytes, valid_of, first_reader, symbol_of, split_of, grow, decided_of, run}
use Rattle.lent.specs.Memory.{Memory, memory_of, long_of, sizes_fine_of, record_at, record_set}
use Rattle.tile.specs.Tile.{span_at_of, contents_of, pick_of, reader_of_of, readers_of, side_of, sides_of, count_of, inside_of, tokens_fine, partitions_of}
use Rattle.choices.specs.Choices.{Call, call_of, lengths_of, failed, refusal_of, beside_of}
use Rattle.header.specs.Header.{fine_to, entries_of}
use Rattle.header.specs.Frame.{announced_of, frame_of}
use Rattle.header.specs.Own.{segmented_of}
use Rattle.header.specs.Levels.{delta_of, level_of_of}
use Rattle.header.specs.Quantizers.{factors_of_of, dc_steps, ac_steps}
use Rattle.reader.specs.Extra.{extra_from}
use Rattle.reader.specs.Trees.{walk, step}
use Rattle.reader.specs.Token.{eleven_at}
use Rattle.modes.specs.Table.{probabilities, rfc_table}
use Rattle.modes.specs.Modes.{modes_of, prefix, segment, skip, mode_above_of, mode_left_of, small_from, small_modes_of}
use Rattle.coefficients.specs.Block.{categories, bases, magnitude, signed_value, bands, zigzag, probability_place, quantizer_at, context_after, block_from, header_table}
use Rattle.residual.specs.Residual.{coordinates, kind_of, spread, second, sixteen_at, advance, blocks_from, residual_of}
use Rattle.column.specs.Column.{packed_of, digits_of}
use Rattle.macroblock.specs.Macroblock.{end_of, step_of}
use Rattle.picture.specs.Picture.{step_at, run_of, pictured_of, begun_of, Ended, picture_of}
use Rattle.planes.specs.Paint.{near_of, four_above_of, four_left_of, first_places, edge_of, above_right_of, block_above_right_of, around_of, rows_painted, block_coefficients, block_residual, summed_of, block_painted, blocks_painted, small_at, prediction_rule, square_painted}
use Rattle.predict.specs.Predict.{dc_block_of, sum_of_first}
use Rattle.transform.specs.Transform.{grid_of, transpose_of, scaled_of, pass_of, rows_of, vertical_pass, horizontal_pass, results_of, samples_of}
use Rattle.promises.specs.Refusals.{Fine, fine_is}
use Rattle.promises.specs.Isolation.{SameTokens, Alike, Stopped, Isolated}
use Rattle.promises.proofs.Isolated.{isolated}
use Rattle.promises.specs.Places.{sample_of, luma}

-- THE TILE: 16 samples wide, `rows` macroblocks high, its first partition and two token partitions one after the other, the first opened afresh
abbrev pub witness_tile : (rows : ℕ) → List ℤ → (first even odd : List ℕ) → Call
witness_tile rows header a b c =
    call_of (a ++ b ++ c)
    (record {
      first = record { start = 0; len = length a };
      tokens = record { start = length a; len = length b } ∷ record { start = length a + length b; len = length c } ∷ [];
      reader = first_reader a;
      count = 2;
      width = 16;
      height = 16 * rows;
    })
    header

-- memory of the lengths that it asks, which holds x everywhere
abbrev pub held_of : (rows x : ℕ) → Memory
held_of rows x = memory_of (replicate (256 * rows) x) (replicate (64 * rows) x) (replicate (64 * rows) x) (replicate 4 x) (replicate (20 * rows) x) (replicate (6 * rows) x)

-- a header of zeros
abbrev pub plain : List ℤ
plain = replicate 1096 (pos 0)

-- a partition of zeros
abbrev pub zeros : List ℕ
zeros = replicate 32 0

-- two tiles of two rows, token partition 1 being x and zeros
abbrev pub whole : ℕ → Call
whole x = witness_tile 2 plain zeros zeros (x ∷ replicate 31 0)

-- token partition 1 was cut away
abbrev pub cut : Call
cut = witness_tile 2 plain zeros zeros []

-- the first partition has two bytes
abbrev pub short : Call
short = witness_tile 2 plain (255 ∷ 255 ∷ []) zeros zeros

-- ---- none is refused, and bytes are bytes: both computed
fines : Fine (whole 0) (held_of 2 7) × Fine (whole 128) (held_of 2 9) × Fine cut (held_of 2 9) × Fine short (held_of 2 7)
unfolding refusal_of failed sides_of side_of count_of entries_of fine_to lengths_of sizes_fine_of long_of partitions_of inside_of tokens_fine span_at_of valid_of contents_of
fines = (refl, refl, refl, refl)

pub bytes_by : (l : List ℕ) → all_of (λ x. ltb x 256) l ≡ true → Bytes l
bytes_by l e i = ltb-true _ 256 (all_of_any (λ x. ltb x 256) l 0 refl e i)

two_tiles : (c d : List ℕ) → Alike 1 (witness_tile 2 plain zeros zeros c) (witness_tile 2 plain zeros zeros d)
unfolding contents_of span_at_of
two_tiles c d = record { width = refl; height = refl; count = refl; header = refl; form = refl; reader = refl; first = first; tokens = tokens }
  where
    first : contents_of (zeros ++ zeros ++ c) (record { start = 0; len = 32 }) ≡ contents_of (zeros ++ zeros ++ d) (record { start = 0; len = 32 })
    first = refl

    tokens : (q : ℕ) → q < 2 → (q ≡ 1 → ⊥) → SameTokens (witness_tile 2 plain zeros zeros c) (witness_tile 2 plain zeros zeros d) q
    tokens zero h n = refl
    tokens (suc zero) h n = absurd (n refl)
    tokens (suc (suc q)) h n = absurd (omega arith)

-- THE PROMISE at work: the byte 0 in the one and 128 in the other, memory that held 7 and memory that held 9
pub first_row : Isolated 1 (whole 0) (whole 128) (held_of 2 7) (held_of 2 9)
first_row = isolated 1 (whole 0) (whole 128) (held_of 2 7) (held_of 2 9) (two_tiles _ _) fines.0 fines.1 (bytes_by (whole 0).bytes refl) (bytes_by (whole 128).bytes refl)

-- and with a partition that was cut away
pub first_row_cut : Isolated 1 (whole 0) cut (held_of 2 7) (held_of 2 9)
first_row_cut = isolated 1 (whole 0) cut (held_of 2 7) (held_of 2 9) (two_tiles _ _) fines.0 fines.2 (bytes_by (whole 0).bytes refl) (bytes_by cut.bytes refl)

-- ---- what they come out as: the macroblocks of a tile, from blank memory
abbrev pub outcome : (rows : ℕ) → Call → (x : ℕ) → Ended
outcome rows t x = run_of rows (pictured_of t) 0 (begun_of t (held_of rows x))

computed : Stopped (outcome 2 (whole 0) 7) 0 2 × Stopped (outcome 2 (whole 128) 9) 0 2 × Stopped (outcome 2 cut 9) 7 1 × Stopped (outcome 2 short 7) 6 1
    × (sample_of 1 luma 0 16 (outcome 2 (whole 0) 7).mem ≡ 129) × (sample_of 1 luma 0 16 (outcome 2 (whole 128) 9).mem ≡ 188)
unfolding build up_to clamp_z placed copied wrap_z announced_of frame_of segmented_of delta_of level_of_of factors_of_of dc_steps ac_steps symbol_of split_of grow decided_of run extra_from walk step eleven_at probabilities rfc_table modes_of prefix segment skip mode_above_of mode_left_of small_from small_modes_of categories bases magnitude signed_value bands zigzag probability_place quantizer_at context_after block_from header_table coordinates kind_of spread second sixteen_at advance blocks_from residual_of record_at record_set packed_of digits_of end_of step_of contents_of span_at_of pick_of reader_of_of readers_of beside_of step_at run_of near_of four_above_of four_left_of first_places edge_of above_right_of block_above_right_of around_of rows_painted block_coefficients block_residual summed_of block_painted blocks_painted small_at prediction_rule square_painted dc_block_of sum_of_first grid_of transpose_of scaled_of pass_of rows_of vertical_pass horizontal_pass results_of samples_of
computed = ((refl, refl), (refl, refl), (refl, refl), (refl, refl), refl, refl)

-- both tiles are finished: number 0, two macroblocks each
pub record BothWhole : Type 0 where
  pub first : Stopped (picture_of (whole 0) (held_of 2 7)) 0 2
  pub second : Stopped (picture_of (whole 128) (held_of 2 9)) 0 2

pub both_whole : BothWhole
both_whole = record { first = rw (fine_is (whole 0) (held_of 2 7) fines.0) computed.0; second = rw (fine_is (whole 128) (held_of 2 9) fines.1) computed.1 }

-- where token partition 1 was cut away the call stops by 7 in row 1, and where the first partition ends early by 6
pub stops_by_7 : Stopped (picture_of cut (held_of 2 9)) 7 1
stops_by_7 = rw (fine_is cut (held_of 2 9) fines.2) computed.2

pub stops_by_6 : Stopped (picture_of short (held_of 2 7)) 6 1
stops_by_6 = rw (fine_is short (held_of 2 7) fines.3) computed.3

-- and row 1 differs: what stands in token partition 1 is seen there
pub record RowDiffers : Type 0 where
  pub first : sample_of 1 luma 0 16 (picture_of (whole 0) (held_of 2 7)).mem ≡ 129
  pub second : sample_of 1 luma 0 16 (picture_of (whole 128) (held_of 2 9)).mem ≡ 188

pub row_differs : RowDiffers
row_differs = record { first = rw (fine_is (whole 0) (held_of 2 7) fines.0) computed.4; second = rw (fine_is (whole 128) (held_of 2 9) fines.1) computed.5 }
