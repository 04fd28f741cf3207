-- The bounds of M-103 are reached, each by a tile of one macroblock: 119 symbols of the first partition, 7,296 of a token partition; and a tile is
-- surveyed. Computed.
use Rattle.std.specs.Prelude.{◌+◌, ◌≡◌, ◌∷◌, ◌++◌}
use Rattle.numbers.specs.Words.{add-zero, refl, sym, ◌∙◌, ap, List, [], get_or, replicate, build, placed, copied, ℤ, pos, clamp_z, up_to, wrap_z}
use Rattle.reader.specs.Reading.{valid_of, symbol_of, split_of, grow, decided_of, trace, count, run}
use Rattle.lent.specs.Memory.{long_of, sizes_fine_of, record_at, record_set, record_found}
use Rattle.tile.specs.Tile.{span_at_of, contents_of, pick_of, reader_of_of, readers_of, side_of, sides_of, count_of, inside_of, tokens_fine, partitions_of}
use Rattle.choices.specs.Choices.{Call, lengths_of, failed, refusal_of, beside_of}
use Rattle.header.specs.Header.{fine_to, entries_of}
use Rattle.macroblock.specs.declared.arguments.SymbolCounts.{SymbolCounts}
use Rattle.macroblock.specs.Macroblock.{reads_of, Step, finished, no_modes, no_tokens, end_of, step_of}
use Rattle.picture.specs.Picture.{plus, reads_at, reads_from, cost_of, Picture, State, next_of, step_at, run_of, pictured_of, begun_of, picture_of}
use Rattle.picture.specs.CountsLaws.{reads_none, reads_finished, reads_no_modes, reads_no_tokens, cost_good}
use Rattle.header.specs.Frame.{announced_of, frame_of}
use Rattle.header.specs.Own.{segmented_of}
use Rattle.header.specs.Levels.{delta_of, level_of_of}
use Rattle.header.specs.Quantizers.{factors_of_of, dc_steps, ac_steps}
use Rattle.reader.specs.Extra.{extra_from}
use Rattle.reader.specs.Trees.{walk, step}
use Rattle.reader.specs.Token.{eleven_at}
use Rattle.modes.specs.Table.{probabilities, rfc_table}
use Rattle.modes.specs.Modes.{modes_of, prefix, segment, skip, mode_above_of, mode_left_of, small_from, small_modes_of}
use Rattle.coefficients.specs.Block.{categories, bases, magnitude, signed_value, bands, zigzag, probability_place, quantizer_at, context_after, block_from, header_table}
use Rattle.residual.specs.Residual.{coordinates, kind_of, spread, second, sixteen_at, advance, blocks_from, residual_of}
use Rattle.column.specs.Column.{packed_of, digits_of}
use Rattle.planes.specs.Paint.{near_of, four_above_of, four_left_of, first_places, edge_of, above_right_of, block_above_right_of, around_of, rows_painted, block_coefficients, block_residual, summed_of, block_painted, blocks_painted, small_at, prediction_rule, square_painted}
use Rattle.predict.specs.Predict.{dc_block_of, sum_of_first}
use Rattle.transform.specs.Transform.{grid_of, transpose_of, scaled_of, pass_of, rows_of, vertical_pass, horizontal_pass, results_of, samples_of}
use Rattle.promises.specs.Refusals.{Fine}
use Rattle.filter.specs.Strengths.{slowed, inner_of, threshold_of, strength_of_of, strength_answer}
use Rattle.survey.specs.Survey.{survey_of, add_of, fits_to, sum_of, tallied_of, sum_to, same, luma_of, sub_blocks, told_of}
use Rattle.witnesses.specs.Witness.{witness_tile, held_of, plain, zeros, whole}

-- a header with a map of segments and skip flags: entry 3 and entries 1094 and 1095
abbrev pub announcing : List ℤ
announcing = replicate 3 (pos 0) ++ pos 1 ∷ replicate 1090 (pos 0) ++ pos 1 ∷ pos 255 ∷ []

-- segment 3, a skip flag of 0, sixteen small modes of seven symbols each, a chroma mode of three
abbrev pub many_modes : Call
many_modes = witness_tile 1 announcing (144 ∷ replicate 31 255) zeros []

-- a large mode, and 384 tokens of nineteen symbols each
abbrev pub many_tokens : Call
many_tokens = witness_tile 1 plain (replicate 32 255) (replicate 400 94) []

fines : Fine many_modes (held_of 1 7) × Fine many_tokens (held_of 1 7)
unfolding refusal_of failed sides_of side_of count_of entries_of fine_to lengths_of sizes_fine_of long_of partitions_of inside_of tokens_fine span_at_of valid_of contents_of
fines = (refl, refl)

-- what the macroblock reads
computed : ((reads_at (pictured_of many_modes) 0 (begun_of many_modes (held_of 1 7))).first ≡ 119) × ((reads_at (pictured_of many_tokens) 0 (begun_of many_tokens (held_of 1 7))).tokens ≡ 7296)
unfolding reads_at reads_of count trace build up_to clamp_z placed copied wrap_z announced_of frame_of segmented_of delta_of level_of_of factors_of_of dc_steps ac_steps symbol_of split_of grow decided_of run extra_from walk step eleven_at probabilities rfc_table modes_of prefix segment skip mode_above_of mode_left_of small_from small_modes_of categories bases magnitude signed_value bands zigzag probability_place quantizer_at context_after block_from header_table coordinates kind_of spread second sixteen_at advance blocks_from residual_of record_at record_set packed_of digits_of end_of step_of contents_of span_at_of pick_of reader_of_of readers_of beside_of step_at run_of near_of four_above_of four_left_of first_places edge_of above_right_of block_above_right_of around_of rows_painted block_coefficients block_residual summed_of block_painted blocks_painted small_at prediction_rule square_painted dc_block_of sum_of_first grid_of transpose_of scaled_of pass_of rows_of vertical_pass horizontal_pass results_of samples_of
computed = (refl, refl)

-- it is all that is read, however it ends
one_reads : (P : Picture) (S : State) → reads_from 1 P 0 S ≡ reads_at P 0 S
one_reads P S = go (step_at P 0 S) refl
  where
    go : (x : Step) → step_at P 0 S ≡ x → reads_from 1 P 0 S ≡ reads_at P 0 S
    go (finished x) e = reads_finished 0 P 0 S x e ∙ ap (plus (reads_at P 0 S)) (reads_none P 1 (next_of P 0 S x)) ∙ (λ i. record { first = add-zero (reads_at P 0 S).first i; tokens = add-zero (reads_at P 0 S).tokens i })
    go no_modes e = reads_no_modes 0 P 0 S e
    go no_tokens e = reads_no_tokens 0 P 0 S e

pub modes_reached : (cost_of many_modes (held_of 1 7)).first ≡ 119
modes_reached = ap (λ (c : SymbolCounts). c.first) (cost_good many_modes (held_of 1 7) (sym fines.0) refl ∙ one_reads (pictured_of many_modes) (begun_of many_modes (held_of 1 7))) ∙ computed.0

pub tokens_reached : (cost_of many_tokens (held_of 1 7)).tokens ≡ 7296
tokens_reached = ap (λ (c : SymbolCounts). c.tokens) (cost_good many_tokens (held_of 1 7) (sym fines.1) refl ∙ one_reads (pictured_of many_tokens) (begun_of many_tokens (held_of 1 7))) ∙ computed.1

-- ---- a survey of a whole tile: one picture of answer 0, two small macroblocks, 32 sub-blocks of the first mode
pub surveyed_whole : let e = survey_of (whole 0) (held_of 2 7) (replicate 37 0) in
    (e.answer.number ≡ 0) × (get_or e.counts 0 0 ≡ 1) × (get_or e.counts 16 0 ≡ 2) × (get_or e.counts 25 0 ≡ 32)
unfolding survey_of add_of fits_to sum_of tallied_of sum_to same luma_of sub_blocks told_of picture_of cost_of reads_from reads_at reads_of count trace record_found slowed inner_of threshold_of strength_of_of strength_answer refusal_of failed sides_of side_of count_of entries_of fine_to lengths_of sizes_fine_of long_of partitions_of inside_of tokens_fine valid_of build up_to clamp_z placed copied wrap_z announced_of frame_of segmented_of delta_of level_of_of factors_of_of dc_steps ac_steps symbol_of split_of grow decided_of run extra_from walk step eleven_at probabilities rfc_table modes_of prefix segment skip mode_above_of mode_left_of small_from small_modes_of categories bases magnitude signed_value bands zigzag probability_place quantizer_at context_after block_from header_table coordinates kind_of spread second sixteen_at advance blocks_from residual_of record_at record_set packed_of digits_of end_of step_of contents_of span_at_of pick_of reader_of_of readers_of beside_of step_at run_of near_of four_above_of four_left_of first_places edge_of above_right_of block_above_right_of around_of rows_painted block_coefficients block_residual summed_of block_painted blocks_painted small_at prediction_rule square_painted dc_block_of sum_of_first grid_of transpose_of scaled_of pass_of rows_of vertical_pass horizontal_pass results_of samples_of
surveyed_whole = (refl, refl, refl, refl)
