-- No group of promises is about nothing: one small call of each, computed. Tiles and memory are those of Witness; files are in webp's own table
-- (crates/webp/specs/Worked.antt).
use Rattle.std.specs.Prelude.{◌+◌, ◌≡◌, ◌∷◌, ◌++◌}
use Rattle.numbers.specs.Words.{ℕ, refl, true, false, List, [], get_or, replicate, build, placed, copied, clamp_z, up_to, wrap_z, Ok, Err}
use Rattle.reader.specs.Reading.{valid_of, symbol_of, split_of, grow, decided_of, run}
use Rattle.lent.specs.Memory.{long_of, sizes_fine_of, record_at, record_set}
use Rattle.tile.specs.Tile.{span_at_of, contents_of, pick_of, reader_of_of, readers_of, side_of, sides_of, count_of, inside_of, tokens_fine, partitions_of}
use Rattle.choices.specs.Choices.{lengths_of, failed, refusal_of, beside_of}
use Rattle.header.specs.Header.{fine_to, entries_of}
use Rattle.picture.specs.Halt.{halt_of, halted_of}
use Rattle.macroblock.specs.Rebuilt.{rebuilt_of}
use Rattle.rescue.specs.Rescue.{rescue_refusal_of, rebuilt_at, rest_of, mark_of_of, marks_of, rescue_of}
use Rattle.profile.specs.declared.Misfit.TheVariants as P
use Rattle.profile.specs.Profile.{size_fits_of, count_fits_of, tile_rules_of, profile_of}
use Rattle.filter.specs.declared.answers.Rule.TheVariants.{MacroblockEdge}
use Rattle.filter.specs.Kernel.{filter_of, moved_of, steps_of, no_steps, common_steps_of, macroblock_steps_of, inner_steps_of, sides, part, half, eighth, tapped, across, rule_of, high_variance_of, rough_at, smooth, first_false, within_limit_of}
use Rattle.filter.specs.Explain.{told_of, explain_of}
use Rattle.macroblock.specs.Macroblock.{planes_of, end_of, step_of}
use Rattle.deblock.specs.Deblock.{turns, when, across_of, laid_back, kept_of, position_of, sweep_of, vertical_edges, horizontal_edges, inner_at, inners_of, square_of, macroblock_edges, raster_of, planes_deblocked, deblock_lengths, limits_of, deblock_checked, deblock_of, deblock_number_of}
use Rattle.header.specs.Frame.{announced_of, frame_of}
use Rattle.header.specs.Own.{segmented_of}
use Rattle.header.specs.Levels.{delta_of, level_of_of}
use Rattle.header.specs.Quantizers.{factors_of_of, dc_steps, ac_steps}
use Rattle.reader.specs.Extra.{extra_from}
use Rattle.reader.specs.Trees.{walk, step}
use Rattle.reader.specs.Token.{eleven_at}
use Rattle.modes.specs.Table.{probabilities, rfc_table}
use Rattle.modes.specs.Modes.{modes_of, prefix, segment, skip, mode_above_of, mode_left_of, small_from, small_modes_of}
use Rattle.coefficients.specs.Block.{categories, bases, magnitude, signed_value, bands, zigzag, probability_place, quantizer_at, context_after, block_from, header_table}
use Rattle.residual.specs.Residual.{coordinates, kind_of, spread, second, sixteen_at, advance, blocks_from, residual_of}
use Rattle.column.specs.Column.{packed_of, digits_of}
use Rattle.picture.specs.Picture.{step_at, run_of}
use Rattle.planes.specs.Paint.{near_of, four_above_of, four_left_of, first_places, edge_of, above_right_of, block_above_right_of, around_of, rows_painted, block_coefficients, block_residual, summed_of, block_painted, blocks_painted, small_at, prediction_rule, square_painted}
use Rattle.predict.specs.Predict.{dc_block_of, sum_of_first}
use Rattle.transform.specs.Transform.{grid_of, transpose_of, scaled_of, pass_of, rows_of, vertical_pass, horizontal_pass, results_of, samples_of}
use Rattle.witnesses.specs.Witness.{held_of, whole, cut}

-- ---- rescuing: the tile whose token partition 1 was cut away; its second macroblock is rebuilt from its modes
pub rescued_cut : ((rescue_of cut (held_of 2 9) (9 ∷ 9 ∷ [])).answer ≡ Ok 2) × ((rescue_of cut (held_of 2 9) (9 ∷ 9 ∷ [])).marks ≡ 0 ∷ 1 ∷ [])
unfolding rescue_of rescue_refusal_of rebuilt_at rest_of mark_of_of marks_of halt_of halted_of rebuilt_of refusal_of failed sides_of side_of count_of entries_of fine_to lengths_of sizes_fine_of long_of partitions_of inside_of tokens_fine valid_of build up_to clamp_z placed copied wrap_z announced_of frame_of segmented_of delta_of level_of_of factors_of_of dc_steps ac_steps symbol_of split_of grow decided_of run extra_from walk step eleven_at probabilities rfc_table modes_of prefix segment skip mode_above_of mode_left_of small_from small_modes_of categories bases magnitude signed_value bands zigzag probability_place quantizer_at context_after block_from header_table coordinates kind_of spread second sixteen_at advance blocks_from residual_of record_at record_set packed_of digits_of end_of step_of contents_of span_at_of pick_of reader_of_of readers_of beside_of step_at run_of near_of four_above_of four_left_of first_places edge_of above_right_of block_above_right_of around_of rows_painted block_coefficients block_residual summed_of block_painted blocks_painted small_at prediction_rule square_painted dc_block_of sum_of_first grid_of transpose_of scaled_of pass_of rows_of vertical_pass horizontal_pass results_of samples_of
rescued_cut = (refl, refl)

-- ---- the profile: a tile that is not 256 by 256 fails rule 1
pub profiled_small : (profile_of (whole 0) (held_of 2 7)).answer ≡ Err (P.Rule 1)
unfolding profile_of tile_rules_of size_fits_of count_fits_of failed
profiled_small = refl

-- ---- deblocking: a macroblock with limit 25, whose edge in the middle is filtered
-- a row: eight samples of 100 and eight of 110
abbrev pub row : List ℕ
row = replicate 8 100 ++ replicate 8 110

-- sixteen of them
abbrev pub edged : List ℕ
edged = let two = row ++ row in let four = two ++ two in let eight = four ++ four in eight ++ eight

pub deblocked_edge : let o = deblock_of (planes_of edged (replicate 64 128) (replicate 64 128)) (25 ∷ 0 ∷ 0 ∷ 1 ∷ 0 ∷ 0 ∷ []) 16 16 true in
    (deblock_number_of o.answer ≡ 0) × (get_or o.planes.y 6 0 ≡ 100) × (get_or o.planes.y 7 0 ≡ 102) × (get_or o.planes.y 8 0 ≡ 107)
unfolding deblock_of deblock_checked limits_of deblock_lengths long_of sides_of side_of planes_deblocked raster_of macroblock_edges square_of inners_of inner_at horizontal_edges vertical_edges sweep_of position_of kept_of laid_back across_of when turns record_at build up_to clamp_z filter_of moved_of steps_of no_steps common_steps_of macroblock_steps_of inner_steps_of sides part half eighth tapped across rule_of high_variance_of rough_at smooth first_false within_limit_of
deblocked_edge = (refl, refl, refl, refl)

-- ---- an explanation: an edge between 100 and 110 with limit 25 is filtered as a macroblock's
pub explained_edge : let x = explain_of (100 ∷ 100 ∷ 100 ∷ 100 ∷ 110 ∷ 110 ∷ 110 ∷ 110 ∷ []) false true 25 0 0 in
    (x.rule ≡ MacroblockEdge) × (x.after ≡ 100 ∷ 101 ∷ 103 ∷ 104 ∷ 106 ∷ 107 ∷ 109 ∷ 110 ∷ [])
unfolding explain_of told_of build up_to clamp_z moved_of steps_of no_steps common_steps_of macroblock_steps_of inner_steps_of sides part half eighth tapped across rule_of high_variance_of rough_at smooth first_false within_limit_of
explained_edge = (refl, refl)
