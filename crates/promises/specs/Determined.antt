-- Each public function promises one answer: for every input, whatever meets its contract, lent memory included, is the same, and something
-- meets it. Every contract is an equation with a definition: a line for each function, under its path, with the right side of its `ensures`
-- and its arguments' own names. tools/determined.py, in the gate, compares the two word by word.
use Rattle.std.specs.Prelude.{◌≡◌}
use Rattle.numbers.specs.Words.{ℕ, refl, sym, ◌∙◌, Bool, cond, List, byte_at, copied_over, ℤ, pos, up_to, clip_z, signed_byte_z, wrap16_of}
use Rattle.reader.specs.Reading.{valid_of, first_reader, symbol_answer, run}
use Rattle.reader.specs.Counts.{tree_count, token_count, extra_count}
use Rattle.reader.specs.Extra.{extra_answer}
use Rattle.header.specs.Header.{present_of, probability_of, present_at_of, probability_at_of, entries_of, header_of}
use Rattle.reader.specs.Token.{token_answer}
use Rattle.reader.specs.Trees.{walk_answer}
use Rattle.reader.specs.declared.boolean.Reader.{Reader}
use Rattle.wide.specs.Wide.{fill_of, wide_bit_of, half_of, widen_of, eight_inside, narrow_of}
use Rattle.wide.specs.declared.wide.Wide.{Wide}
use Rattle.header.specs.Levels.{level_answer}
use Rattle.header.specs.Quantizers.{quantizers_of}
use Rattle.header.specs.declared.quantizers.Factors.{Factors}
use Rattle.coefficients.specs.Block as Tokens
use Rattle.coefficients.specs.Block.{number_answer, signed_answer, table_of}
use Rattle.transform.specs.Lanes.{residuals_of, macroblock_blocks}
use Rattle.transform.specs.Transform.{transform_of}
use Rattle.filter.specs.declared.answers.Rule.{Rule}
use Rattle.filter.specs.Kernel.{samples_across, apart, within_limit_of, rule_of, steps_of, moved_of, filter_of, pixel_of}
use Rattle.straight.specs.Straight.{acts_of, straight_of}
use Rattle.modes.specs.Modes.{each_below_of, macroblock_of, prefix_answer, main_answer, block_answer, small_answer, modes_answer, bottom_of, modes_reads, empty_context, context_fine_of}
use Rattle.filter.specs.Explain.{explain_of}
use Rattle.modes.specs.Modes as Modes
use Rattle.modes.specs.Table.{renumbered_table}
use Rattle.column.specs.Column.{packed_bytes, context_unpacked}
use Rattle.lent.specs.Memory.{packed, column_written, column_found, mode_written, mode_found, strength_written, strength_found, luma_fine_of, chroma_fine_of, columns_fine_of, modes_fine_of, strengths_fine_of, sizes_fine_of, memory_of, filled, blank_of}
use Rattle.lent.specs.declared.sizes.Sizes.{Sizes}
use Rattle.tile.specs.declared.Span.{Span}
use Rattle.tile.specs.declared.Tile.{Tile}
use Rattle.tile.specs.Tile.{side_of, sides_of, count_of, partitions_of, pick_of, contents_of, token_contents, readers_of}
use Rattle.modes.specs.declared.answers.Kinds.{Kinds}
use Rattle.modes.specs.declared.contexts.Context.{Context}
use Rattle.residual.specs.Residual as Residual
use Rattle.predict.specs.declared.Border.{Border}
use Rattle.predict.specs.Predict.{tm_wide_of, small_block_of, dc_of}
use Rattle.planes.specs.Paint.{paint_of, square_blocks}
use Rattle.header.specs.Frame.{announced_of, framed_of}
use Rattle.header.specs.declared.frame.Announced.{Announced}
use Rattle.macroblock.specs.declared.arguments.Place.{Place}
use Rattle.macroblock.specs.declared.arguments.Readers.{Readers}
use Rattle.macroblock.specs.declared.arguments.Around.{Around}
use Rattle.macroblock.specs.Macroblock.{Finish}
use Rattle.macroblock.specs.declared.ending.ModeData.{ModeData}
use Rattle.macroblock.specs.declared.ending.Residue.{Residue}
use Rattle.macroblock.specs.declared.arguments.SymbolCounts.{SymbolCounts}
use Rattle.macroblock.specs.Macroblock.{decode_reads, macroblock_ended, planes_of}
use Rattle.macroblock.specs.Macroblock as Macroblock
use Rattle.macroblock.specs.Rebuilt.{rebuild_call_of}
use Rattle.filter.specs.Strengths.{strength_answer, strength_fine_of}
use Rattle.header.specs.declared.frame.Frame.{Frame}
use Rattle.filter.specs.declared.strengths.Strength.{Strength}
use Rattle.choices.specs.declared.answer.Refusal.{Refusal}
use Rattle.choices.specs.Choices.{call_of, refusal_number_of, checked_of, number_of, values_of, stopped_of, beside_of, Decoded}
use Rattle.casefile.specs.Run.{ran_of}
use Rattle.deblock.specs.declared.checks.DeblockError.{DeblockError}
use Rattle.deblock.specs.Deblock.{deblock_error_number_of, deblock_of}
use Rattle.samples.specs.FilterCalls.{deblock_called_of, filtered_of}
use Rattle.told.specs.Told.{counts_of, rescue_told_of, profile_told_of}
use Rattle.hookbarley.specs.Calls.{called_of, rescue_called_of, profile_called_of, survey_called_of, recode_called_of, show_called_of}
use Rattle.samples.specs.ExplainCalls.{explain_called_of}
use Rattle.picture.specs.Picture.{picture_of, cost_of}
use Rattle.picture.specs.Halt.{halted_of}
use Rattle.rescue.specs.Rescue.{Rescued, rescue_of, rescue_number_of, saved_count_of}
use Rattle.survey.specs.Survey.{add_of, survey_of}
use Rattle.profile.specs.Profile.{Profiled, profile_of, profile_rule_of, profile_block_of, profile_number_of}
use Rattle.boundary.specs.TileNumbers.{tile_of_numbers, numbers_of_tile, put_of}
use Rattle.boundary.specs.FrameCalls.{tile_after, frame_called_of}
use Rattle.files.specs.WebpCalls.{webp_found_of, webp_wrapped_of}
use Rattle.frame.specs.declared.take.Answer.{Answer}
use Rattle.frame.specs.declared.take.ShownSize.{ShownSize}
use Rattle.frame.specs.Header.{header}
use Rattle.frame.specs.Tables.{update_probs}
use Rattle.frame.specs.Tag.{first_size_of, tag_fine}
use Rattle.frame.specs.Take.{refused_answer, nothing_taken, coded_of, taken_of, stored_of, into_of}
use Rattle.key_frame.specs.KeyFrame.{key_frame_of}
use Rattle.webp.specs.declared.read.FindError.{FindError}
use Rattle.webp.specs.declared.write.WrapError.{WrapError}
use Rattle.webp.specs.Webp.{find_of, find_error_number, wrap_of, wrap_error_number}
use Rattle.writer.specs.declared.Writer.{Writer}
use Rattle.writer.specs.Room.{fresh_writer, write_in, flush_answer}
use Rattle.recode.specs.declared.pipe.Pipe.{Pipe}
use Rattle.recode.specs.Ask.{ask_of}
use Rattle.recode.specs.Recode.{tokens_of, recode_of}
use Rattle.recode_frame.specs.RecodeFrame.{recode_frame_of}

-- one answer meets the promise, and no other
pub record One {A : Type 0} (Promise : A → Type 0) : Type 0 where
  pub answer : A
  pub meets : Promise answer
  pub only : (x y : A) → Promise x → Promise y → x ≡ y

determined : {A : Type 0} (d : A) → One (λ o. o ≡ d)
determined d = record { answer = d; meets = refl; only = λ x y e f. e ∙ sym f }

-- ---- numbers
-- numbers::wrap16
pub numbers_wrap16 : (v : ℤ) → One (λ o. o ≡ wrap16_of v)
numbers_wrap16 v = determined (wrap16_of v)

-- numbers::byte_or_zero
pub numbers_byte_or_zero : (s : List ℕ) (i : ℕ) → One (λ o. o ≡ byte_at s i)
numbers_byte_or_zero s i = determined (byte_at s i)

-- numbers::clamp_to
pub numbers_clamp_to : (v : ℤ) (top : ℕ) → One (λ o. o ≡ up_to top v)
numbers_clamp_to v top = determined (up_to top v)

-- numbers::copy
pub numbers_copy : (from to : List ℕ) → One (λ o. o ≡ copied_over from to)
numbers_copy from to = determined (copied_over from to)

-- ---- reader
-- reader::boolean::valid
pub reader_valid : (s : List ℕ) (r : Reader) → One (λ o. o ≡ valid_of s r)
reader_valid s r = determined (valid_of s r)

-- reader::boolean::open
pub reader_open : (s : List ℕ) → One (λ o. o ≡ first_reader s)
reader_open s = determined (first_reader s)

-- reader::boolean::Reader::symbol
pub reader_symbol : (s : List ℕ) (self : Reader) (prob : ℕ) → One (λ o. o ≡ symbol_answer s self prob)
reader_symbol s self prob = determined (symbol_answer s self prob)

-- reader::trees::walk_tree
pub reader_walk_tree : (s probs : List ℕ) (tree : List ℤ) (start : ℕ) (r : Reader) → One (λ o. o ≡ walk_answer s probs tree start r)
reader_walk_tree s probs tree start r = determined (walk_answer s probs tree start r)

-- reader::trees::walk_tree
pub reader_walk_tree_reads : (s probs : List ℕ) (tree : List ℤ) (start : ℕ) (r : Reader) → One (λ o. o ≡ tree_count s probs tree start r)
reader_walk_tree_reads s probs tree start r = determined (tree_count s probs tree start r)

-- reader::extra::extra_bits
pub reader_extra_bits : (s probs : List ℕ) (r : Reader) → One (λ o. o ≡ extra_answer s probs r)
reader_extra_bits s probs r = determined (extra_answer s probs r)

-- reader::extra::extra_bits
pub reader_extra_bits_reads : (s probs : List ℕ) (r : Reader) → One (λ o. o ≡ extra_count s probs r)
reader_extra_bits_reads s probs r = determined (extra_count s probs r)

-- reader::token::walk_token
pub reader_walk_token : (s table : List ℕ) (at : ℕ) (zero : Bool) (r : Reader) → One (λ o. o ≡ token_answer s table at zero r)
reader_walk_token s table at zero r = determined (token_answer s table at zero r)

-- reader::token::walk_token
pub reader_walk_token_reads : (s table : List ℕ) (at : ℕ) (zero : Bool) (r : Reader) → One (λ o. o ≡ token_count s table at zero r)
reader_walk_token_reads s table at zero r = determined (token_count s table at zero r)

-- ---- wide
-- wide::wide::Wide::fill
pub wide_fill : (s : List ℕ) (self : Wide) → One (λ o. o ≡ fill_of s self)
wide_fill s self = determined (fill_of s self)

-- wide::wide::Wide::bit
pub wide_bit : (self : Wide) (prob : ℕ) → One (λ o. o ≡ wide_bit_of self prob)
wide_bit self prob = determined (wide_bit_of self prob)

-- wide::wide::Wide::even
pub wide_even : (self : Wide) (prob : ℕ) → One (λ o. o ≡ wide_bit_of self prob)
wide_even self prob = determined (wide_bit_of self prob)

-- wide::wide::Wide::half
pub wide_half : (self : Wide) → One (λ o. o ≡ half_of self)
wide_half self = determined (half_of self)

-- wide::wide::widen
pub wide_widen : (r : Reader) → One (λ o. o ≡ widen_of r)
wide_widen r = determined (widen_of r)

-- wide::wide::inside
pub wide_inside : (s : List ℕ) (w : Wide) → One (λ o. o ≡ eight_inside s w)
wide_inside s w = determined (eight_inside s w)

-- wide::wide::narrow
pub wide_narrow : (s : List ℕ) (w : Wide) → One (λ o. o ≡ narrow_of s w)
wide_narrow s w = determined (narrow_of s w)

-- ---- header
-- header::entries::present
pub header_present : (entry : ℤ) → One (λ o. o ≡ present_of entry)
header_present entry = determined (present_of entry)

-- header::entries::probability
pub header_probability : (entry : ℤ) → One (λ o. o ≡ probability_of entry)
header_probability entry = determined (probability_of entry)

-- header::entries::present_at
pub header_present_at : (h : List ℤ) (i : ℕ) → One (λ o. o ≡ present_at_of h i)
header_present_at h i = determined (present_at_of h i)

-- header::entries::probability_at
pub header_probability_at : (h : List ℤ) (i : ℕ) → One (λ o. o ≡ probability_at_of h i)
header_probability_at h i = determined (probability_at_of h i)

-- header::entries::entries_fine
pub header_entries_fine : (h : List ℤ) → One (λ o. o ≡ entries_of h)
header_entries_fine h = determined (entries_of h)

-- header::entries::header_fine
pub header_header_fine : (h : List ℤ) → One (λ o. o ≡ header_of h)
header_header_fine h = determined (header_of h)

-- header::frame::announced_by
pub header_announced_by : (h : List ℤ) → One (λ o. o ≡ announced_of h)
header_announced_by h = determined (announced_of h)

-- header::quantizers::for_segment
pub header_for_segment : (h : List ℤ) (segment : ℕ) → One (λ o. o ≡ quantizers_of h segment)
header_for_segment h segment = determined (quantizers_of h segment)

-- header::levels::for_macroblock
pub header_for_macroblock : (h : List ℤ) (segment : ℕ) (small : Bool) → One (λ o. o ≡ level_answer h segment small)
header_for_macroblock h segment small = determined (level_answer h segment small)

-- header::frame::take
pub header_take : (h : List ℤ) → One (λ o. o ≡ framed_of h)
header_take h = determined (framed_of h)

-- ---- coefficients
-- coefficients::block::number
pub coefficients_number : (s : List ℕ) (token : ℕ) (r : Reader) → One (λ o. o ≡ number_answer s token r)
coefficients_number s token r = determined (number_answer s token r)

-- coefficients::block::dequant
pub coefficients_dequant : (s : List ℕ) (token q : ℕ) (r : Reader) → One (λ o. o ≡ signed_answer s token q r)
coefficients_dequant s token q r = determined (signed_answer s token q r)

-- coefficients::block::probabilities
pub coefficients_probabilities : (h : List ℤ) → One (λ o. o ≡ table_of h)
coefficients_probabilities h = determined (table_of h)

-- coefficients::block::decode
pub coefficients_decode : (s : List ℕ) (r : Reader) (table : List ℕ) (kind ctx first q0 q1 : ℕ) (out : List ℤ) → One (λ o. o ≡ Tokens.block_call_of s r table kind ctx first q0 q1 out)
coefficients_decode s r table kind ctx first q0 q1 out = determined (Tokens.block_call_of s r table kind ctx first q0 q1 out)

-- coefficients::block::decode
pub coefficients_decode_reads : (s : List ℕ) (r : Reader) (table : List ℕ) (kind ctx first q0 q1 : ℕ) (out : List ℤ) → One (λ o. o ≡ Tokens.block_reads s r table kind ctx first q0 q1 out)
coefficients_decode_reads s r table kind ctx first q0 q1 out = determined (Tokens.block_reads s r table kind ctx first q0 q1 out)

-- coefficients::block::decode_header
pub coefficients_decode_header : (s : List ℕ) (r : Reader) (h : List ℤ) (kind ctx first q0 q1 : ℕ) (out : List ℤ) → One (λ o. o ≡ Tokens.block_by_header_of s r h kind ctx first q0 q1 out)
coefficients_decode_header s r h kind ctx first q0 q1 out = determined (Tokens.block_by_header_of s r h kind ctx first q0 q1 out)

-- coefficients::block::decode_header
pub coefficients_decode_header_reads : (s : List ℕ) (r : Reader) (h : List ℤ) (kind ctx first q0 q1 : ℕ) (out : List ℤ) → One (λ o. o ≡ Tokens.block_by_header_reads s r h kind ctx first q0 q1 out)
coefficients_decode_header_reads s r h kind ctx first q0 q1 out = determined (Tokens.block_by_header_reads s r h kind ctx first q0 q1 out)

-- ---- transform
-- transform::transform
pub transform_transform : (c : List ℤ) (walsh : Bool) → One (λ o. o ≡ transform_of c walsh)
transform_transform c walsh = determined (transform_of c walsh)

-- transform::lanes::residuals
pub transform_residuals : (c values : List ℤ) → One (λ o. o ≡ residuals_of c values)
transform_residuals c values = determined (residuals_of c values)

-- ---- filter
-- filter::filter
pub filter_filter : (e : List ℕ) (simple edge : Bool) (limit inner threshold : ℕ) → One (λ o. o ≡ filter_of e simple edge limit inner threshold)
filter_filter e simple edge limit inner threshold = determined (filter_of e simple edge limit inner threshold)

-- filter::pixel
pub filter_pixel : (e : List ℕ) (simple edge : Bool) (limit inner threshold k : ℕ) → One (λ o. o ≡ pixel_of e simple edge limit inner threshold k)
filter_pixel e simple edge limit inner threshold k = determined (pixel_of e simple edge limit inner threshold k)

-- filter::rules::rule
pub filter_rule : (e : List ℕ) (simple edge : Bool) (limit inner threshold : ℕ) → One (λ o. o ≡ rule_of (samples_across e) simple edge limit inner threshold)
filter_rule e simple edge limit inner threshold = determined (rule_of (samples_across e) simple edge limit inner threshold)

-- filter::steps::acted
pub filter_acted : (e : List ℕ) (rule : Rule) → One (λ o. o ≡ moved_of e (steps_of rule (samples_across e)))
filter_acted e rule = determined (moved_of e (steps_of rule (samples_across e)))

-- filter::rules::distance
pub filter_distance : (a b : ℕ) → One (λ o. o ≡ apart (pos a) (pos b))
filter_distance a b = determined (apart (pos a) (pos b))

-- filter::rules::within_limit
pub filter_within_limit : (e : List ℕ) (limit : ℕ) → One (λ o. o ≡ within_limit_of (samples_across e) limit)
filter_within_limit e limit = determined (within_limit_of (samples_across e) limit)

-- filter::steps::signed_byte
pub filter_signed_byte : (v : ℤ) → One (λ o. o ≡ signed_byte_z v)
filter_signed_byte v = determined (signed_byte_z v)

-- filter::strengths::at_level
pub filter_at_level : (level sharp : ℕ) (inside : Bool) → One (λ o. o ≡ strength_answer level sharp inside)
filter_at_level level sharp inside = determined (strength_answer level sharp inside)

-- filter::strengths::strength_fine
pub filter_strength_fine : (t : Strength) → One (λ o. o ≡ strength_fine_of t)
filter_strength_fine t = determined (strength_fine_of t)

-- filter::steps::added
pub filter_added : (e : List ℕ) (rule : Rule) → One (λ o. o ≡ steps_of rule (samples_across e))
filter_added e rule = determined (steps_of rule (samples_across e))

-- filter::explain::explain
pub filter_explain : (e : List ℕ) (simple edge : Bool) (limit inner threshold : ℕ) → One (λ o. o ≡ explain_of e simple edge limit inner threshold)
filter_explain e simple edge limit inner threshold = determined (explain_of e simple edge limit inner threshold)

-- ---- straight
-- straight::limits::acts
pub straight_acts : (e : List ℕ) (simple : Bool) (limit inner : ℕ) → One (λ o. o ≡ acts_of (samples_across e) simple limit inner)
straight_acts e simple limit inner = determined (acts_of (samples_across e) simple limit inner)

-- straight::steps::straight
pub straight_straight : (e : List ℕ) (simple edge : Bool) (threshold : ℕ) (acts : Bool) → One (λ o. o ≡ straight_of e simple edge threshold acts)
straight_straight e simple edge threshold acts = determined (straight_of e simple edge threshold acts)

-- ---- modes
-- modes::prefix::prefix
pub modes_prefix : (s : List ℕ) (r : Reader) (h : List ℤ) → One (λ o. o ≡ prefix_answer s r h)
modes_prefix s r h = determined (prefix_answer s r h)

-- modes::large::main_mode
pub modes_main_mode : (s : List ℕ) (r : Reader) (chroma : Bool) → One (λ o. o ≡ main_answer s r chroma)
modes_main_mode s r chroma = determined (main_answer s r chroma)

-- modes::small::all_probabilities
pub modes_all_probabilities : One (λ o. o ≡ renumbered_table)
modes_all_probabilities = determined renumbered_table

-- modes::small::block_mode
pub modes_block_mode : (s : List ℕ) (r : Reader) (top left : ℕ) → One (λ o. o ≡ block_answer s r top left)
modes_block_mode s r top left = determined (block_answer s r top left)

-- modes::small::small_modes
pub modes_small_modes : (s : List ℕ) (r : Reader) (top left modes : List ℕ) → One (λ o. o ≡ small_answer s r top left modes)
modes_small_modes s r top left modes = determined (small_answer s r top left modes)

-- modes::whole::read_modes
pub modes_read_modes : (s : List ℕ) (a : Announced) (r : Reader) (top left modes : List ℕ) → One (λ o. o ≡ modes_answer s a r top left modes)
modes_read_modes s a r top left modes = determined (modes_answer s a r top left modes)

-- modes::whole::read_modes
pub modes_read_modes_reads : (s : List ℕ) (a : Announced) (r : Reader) (top left : List ℕ) → One (λ o. o ≡ modes_reads s a r top left)
modes_read_modes_reads s a r top left = determined (modes_reads s a r top left)

-- modes::contexts::Context::empty
pub modes_empty : One (λ o. o ≡ empty_context)
modes_empty = determined empty_context

-- modes::contexts::bottom
pub modes_bottom : (modes : List ℕ) → One (λ o. o ≡ bottom_of modes)
modes_bottom modes = determined (bottom_of modes)

-- modes::contexts::right
pub modes_right : (modes : List ℕ) → One (λ o. o ≡ Modes.right_of modes)
modes_right modes = determined (Modes.right_of modes)

-- modes::contexts::each_below
pub modes_each_below : (l : List ℕ) (limit : ℕ) → One (λ o. o ≡ each_below_of limit l)
modes_each_below l limit = determined (each_below_of limit l)

-- modes::contexts::context_fine
pub modes_context_fine : (c : Context) → One (λ o. o ≡ context_fine_of c)
modes_context_fine c = determined (context_fine_of c)

-- ---- residual
-- residual::decode
pub residual_decode : (s : List ℕ) (r : Reader) (table : List ℕ) (f : Factors) (small skip : Bool) (top left : List ℕ) (out : List ℤ) → One (λ o. o ≡ Residual.residual_call_of s r table f small skip top left out)
residual_decode s r table f small skip top left out = determined (Residual.residual_call_of s r table f small skip top left out)

-- residual::decode
pub residual_decode_reads : (s : List ℕ) (r : Reader) (table : List ℕ) (f : Factors) (small skip : Bool) (top left : List ℕ) (out : List ℤ) → One (λ o. o ≡ Residual.residual_reads s r table f small skip top left out)
residual_decode_reads s r table f small skip top left out = determined (Residual.residual_reads s r table f small skip top left out)

-- residual::decode_header
pub residual_decode_header : (s : List ℕ) (r : Reader) (h : List ℤ) (segment : ℕ) (small skip : Bool) (top left : List ℕ) (out : List ℤ) → One (λ o. o ≡ Residual.residual_by_header_of s r h segment small skip top left out)
residual_decode_header s r h segment small skip top left out = determined (Residual.residual_by_header_of s r h segment small skip top left out)

-- residual::decode_header
pub residual_decode_header_reads : (s : List ℕ) (r : Reader) (h : List ℤ) (segment : ℕ) (small skip : Bool) (top left : List ℕ) (out : List ℤ) → One (λ o. o ≡ Residual.residual_by_header_reads s r h segment small skip top left out)
residual_decode_header_reads s r h segment small skip top left out = determined (Residual.residual_by_header_reads s r h segment small skip top left out)

-- residual::contexts::cleared
pub residual_cleared : (flags : List ℕ) (small : Bool) → One (λ o. o ≡ Residual.cleared small flags)
residual_cleared flags small = determined (Residual.cleared small flags)

-- ---- predict
-- predict::clipped
pub predict_clipped : (v : ℤ) → One (λ o. o ≡ clip_z v)
predict_clipped v = determined (clip_z v)

-- predict::small_block
pub predict_small_block : (mode : ℕ) (e : List ℕ) → One (λ o. o ≡ small_block_of mode e)
predict_small_block mode e = determined (small_block_of mode e)

-- predict::large_dc
pub predict_large_dc : (luma : Bool) (e : Border) → One (λ o. o ≡ dc_of (cond luma 16 8) e)
predict_large_dc luma e = determined (dc_of (cond luma 16 8) e)

-- predict::tm_wide
pub predict_tm_wide : (l : ℕ) (a : List ℕ) (corner : ℕ) → One (λ o. o ≡ tm_wide_of l a corner)
predict_tm_wide l a corner = determined (tm_wide_of l a corner)

-- ---- planes
-- planes::paint
pub planes_paint : (plane : List ℕ) (stride column row size : ℕ) (small : Bool) (mode : ℕ) (modes : List ℕ) (coefficients : List ℤ) (from : ℕ) → One (λ o. o ≡ paint_of plane stride column row size small mode modes (square_blocks size from coefficients))
planes_paint plane stride column row size small mode modes coefficients from = determined (paint_of plane stride column row size small mode modes (square_blocks size from coefficients))

-- ---- tile
-- tile::checks::side_fine
pub tile_side_fine : (n : ℕ) → One (λ o. o ≡ side_of n)
tile_side_fine n = determined (side_of n)

-- tile::checks::sides_fine
pub tile_sides_fine : (w h : ℕ) → One (λ o. o ≡ sides_of w h)
tile_sides_fine w h = determined (sides_of w h)

-- tile::checks::count_fine
pub tile_count_fine : (count : ℕ) → One (λ o. o ≡ count_of count)
tile_count_fine count = determined (count_of count)

-- tile::checks::partitions_fine
pub tile_partitions_fine : (bytes : List ℕ) (tile : Tile) → One (λ o. o ≡ partitions_of bytes tile)
tile_partitions_fine bytes tile = determined (partitions_of bytes tile)

-- tile::partitions::pick
pub tile_pick : (row count : ℕ) → One (λ o. o ≡ pick_of row count)
tile_pick row count = determined (pick_of row count)

-- tile::partitions::part
pub tile_part : (bytes : List ℕ) (span : Span) → One (λ o. o ≡ contents_of bytes span)
tile_part bytes span = determined (contents_of bytes span)

-- tile::partitions::token
pub tile_token : (bytes : List ℕ) (tile : Tile) (i : ℕ) → One (λ o. o ≡ token_contents bytes tile i)
tile_token bytes tile i = determined (token_contents bytes tile i)

-- tile::partitions::openers
pub tile_openers : (bytes : List ℕ) (tile : Tile) → One (λ o. o ≡ readers_of bytes tile)
tile_openers bytes tile = determined (readers_of bytes tile)

-- ---- column
-- column::pack
pub column_pack : (c : Context) → One (λ o. o ≡ packed_bytes c)
column_pack c = determined (packed_bytes c)

-- column::unpack
pub column_unpack : (b : List ℕ) → One (λ o. o ≡ context_unpacked b)
column_unpack b = determined (context_unpacked b)

-- ---- lent
-- lent::sizes::luma_fine
pub lent_luma_fine : (w h n : ℕ) → One (λ o. o ≡ luma_fine_of w h n)
lent_luma_fine w h n = determined (luma_fine_of w h n)

-- lent::sizes::chroma_fine
pub lent_chroma_fine : (w h n : ℕ) → One (λ o. o ≡ chroma_fine_of w h n)
lent_chroma_fine w h n = determined (chroma_fine_of w h n)

-- lent::sizes::columns_fine
pub lent_columns_fine : (w h n : ℕ) → One (λ o. o ≡ columns_fine_of packed w h n)
lent_columns_fine w h n = determined (columns_fine_of packed w h n)

-- lent::sizes::modes_fine
pub lent_modes_fine : (w h n : ℕ) → One (λ o. o ≡ modes_fine_of w h n)
lent_modes_fine w h n = determined (modes_fine_of w h n)

-- lent::sizes::strengths_fine
pub lent_strengths_fine : (w h n : ℕ) → One (λ o. o ≡ strengths_fine_of w h n)
lent_strengths_fine w h n = determined (strengths_fine_of w h n)

-- lent::sizes::sizes_fine
pub lent_sizes_fine : (w h : ℕ) (z : Sizes) → One (λ o. o ≡ sizes_fine_of packed w h z)
lent_sizes_fine w h z = determined (sizes_fine_of packed w h z)

-- lent::columns::write_column
pub lent_write_column : (mem : List ℕ) (x : ℕ) (c : Context) → One (λ o. o ≡ column_written mem x c)
lent_write_column mem x c = determined (column_written mem x c)

-- lent::columns::read_column
pub lent_read_column : (mem : List ℕ) (x : ℕ) → One (λ o. o ≡ column_found mem x)
lent_read_column mem x = determined (column_found mem x)

-- lent::macroblocks::write_mode_record
pub lent_write_mode_record : (mem : List ℕ) (i : ℕ) (kinds : Kinds) (modes : List ℕ) → One (λ o. o ≡ mode_written mem i kinds modes)
lent_write_mode_record mem i kinds modes = determined (mode_written mem i kinds modes)

-- lent::macroblocks::read_mode_record
pub lent_read_mode_record : (mem : List ℕ) (i : ℕ) → One (λ o. o ≡ mode_found mem i)
lent_read_mode_record mem i = determined (mode_found mem i)

-- lent::macroblocks::write_strength
pub lent_write_strength : (mem : List ℕ) (i : ℕ) (t : Strength) (kinds : Kinds) → One (λ o. o ≡ strength_written mem i t kinds)
lent_write_strength mem i t kinds = determined (strength_written mem i t kinds)

-- lent::macroblocks::read_strength
pub lent_read_strength : (mem : List ℕ) (i : ℕ) → One (λ o. o ≡ strength_found mem i)
lent_read_strength mem i = determined (strength_found mem i)

-- ---- blank
-- blank::fill
pub blank_fill : (mem : List ℕ) (value : ℕ) → One (λ o. o ≡ filled mem value)
blank_fill mem value = determined (filled mem value)

-- blank::blank
pub blank_blank : (y u v columns modes strengths : List ℕ) → One (λ o. o ≡ blank_of (memory_of y u v columns modes strengths))
blank_blank y u v columns modes strengths = determined (blank_of (memory_of y u v columns modes strengths))

-- ---- macroblock
-- macroblock::checks::frame_fine
pub macroblock_frame_fine : (frame : Frame) → One (λ o. o ≡ Macroblock.frame_fine_of frame)
macroblock_frame_fine frame = determined (Macroblock.frame_fine_of frame)

-- macroblock::checks::around_fine
pub macroblock_around_fine : (around : Around) → One (λ o. o ≡ Macroblock.around_fine_of around)
macroblock_around_fine around = determined (Macroblock.around_fine_of around)

-- macroblock::checks::laid
pub macroblock_laid : (y u v : ℕ) (place : Place) → One (λ o. o ≡ Macroblock.place_fine y u v place)
macroblock_laid y u v place = determined (Macroblock.place_fine y u v place)

-- macroblock::ending::nothing
pub macroblock_nothing : (answer : Finish) → One (λ o. o ≡ Macroblock.no_outcome answer)
macroblock_nothing answer = determined (Macroblock.no_outcome answer)

-- macroblock::ending::complete
pub macroblock_complete : (frame : Frame) (place : Place) (m : ModeData) (residue : Residue) (c : List ℤ) (y u v : List ℕ)
    → One (λ o. o ≡ macroblock_ended frame place (macroblock_of m.kinds m.modes) m.next residue (macroblock_blocks c) (planes_of y u v))
macroblock_complete frame place m residue c y u v =
    determined (macroblock_ended frame place (macroblock_of m.kinds m.modes) m.next residue (macroblock_blocks c) (planes_of y u v))

-- ---- whole
-- whole::decode
pub whole_decode : (first tokens : List ℕ) (readers : Readers) (frame : Frame) (table : List ℕ) (around : Around) (place : Place) (y u v : List ℕ)
    → One (λ o. o ≡ Macroblock.macroblock_call_of first tokens readers frame table around place (planes_of y u v))
whole_decode first tokens readers frame table around place y u v = determined (Macroblock.macroblock_call_of first tokens readers frame table around place (planes_of y u v))

-- whole::decode
pub whole_decode_reads : (first tokens : List ℕ) (readers : Readers) (frame : Frame) (table : List ℕ) (around : Around) (place : Place) (y u v : List ℕ) → One (λ o. o ≡ decode_reads first tokens readers frame table around place (planes_of y u v))
whole_decode_reads first tokens readers frame table around place y u v = determined (decode_reads first tokens readers frame table around place (planes_of y u v))

-- ---- rebuilt
-- rebuilt::rebuild
pub rebuilt_rebuild : (first : List ℕ) (readers : Readers) (frame : Frame) (around : Around) (place : Place) (y u v : List ℕ) → One (λ o. o ≡ rebuild_call_of first readers frame around place (planes_of y u v))
rebuilt_rebuild first readers frame around place y u v = determined (rebuild_call_of first readers frame around place (planes_of y u v))

-- ---- choices
-- choices::answer::Refusal::number
pub choices_refusal_number : (self : Refusal) → One (λ o. o ≡ refusal_number_of self)
choices_refusal_number self = determined (refusal_number_of self)

-- choices::checks::refusal
pub choices_refusal : (bytes : List ℕ) (tile : Tile) (header : List ℤ) (sizes : Sizes) → One (λ o. o ≡ checked_of (call_of bytes tile header) sizes)
choices_refusal bytes tile header sizes = determined (checked_of (call_of bytes tile header) sizes)

-- choices::beside::beside
pub choices_beside : (column : ℕ) (left : Context) → One (λ o. o ≡ beside_of column left)
choices_beside column left = determined (beside_of column left)

-- choices::answer::number
pub choices_number : (answer : Decoded) → One (λ o. o ≡ number_of answer)
choices_number answer = determined (number_of answer)

-- choices::answer::finished
pub choices_finished : (answer : Decoded) → One (λ o. o ≡ values_of answer)
choices_finished answer = determined (values_of answer)

-- choices::answer::stopped
pub choices_stopped : (answer : Finish) (k : ℕ) → One (λ o. o ≡ stopped_of answer k)
choices_stopped answer k = determined (stopped_of answer k)

-- ---- picture
-- picture::halt
pub picture_halt : (bytes : List ℕ) (tile : Tile) (header : List ℤ) (y u v columns modes strengths : List ℕ)
    → One (λ o. o ≡ halted_of (call_of bytes tile header) (memory_of y u v columns modes strengths))
picture_halt bytes tile header y u v columns modes strengths = determined (halted_of (call_of bytes tile header) (memory_of y u v columns modes strengths))

-- picture::halt
pub picture_halt_reads : (bytes : List ℕ) (tile : Tile) (header : List ℤ) (y u v columns modes strengths : List ℕ) → One (λ o. o ≡ cost_of (call_of bytes tile header) (memory_of y u v columns modes strengths))
picture_halt_reads bytes tile header y u v columns modes strengths = determined (cost_of (call_of bytes tile header) (memory_of y u v columns modes strengths))

-- picture::decode
pub picture_decode : (bytes : List ℕ) (tile : Tile) (header : List ℤ) (y u v columns modes strengths : List ℕ)
    → One (λ o. o ≡ picture_of (call_of bytes tile header) (memory_of y u v columns modes strengths))
picture_decode bytes tile header y u v columns modes strengths = determined (picture_of (call_of bytes tile header) (memory_of y u v columns modes strengths))

-- picture::decode
pub picture_decode_reads : (bytes : List ℕ) (tile : Tile) (header : List ℤ) (y u v columns modes strengths : List ℕ) → One (λ o. o ≡ cost_of (call_of bytes tile header) (memory_of y u v columns modes strengths))
picture_decode_reads bytes tile header y u v columns modes strengths = determined (cost_of (call_of bytes tile header) (memory_of y u v columns modes strengths))

-- ---- deblock
-- deblock::checks::DeblockError::number
pub deblock_error_number : (self : DeblockError) → One (λ o. o ≡ deblock_error_number_of self)
deblock_error_number self = determined (deblock_error_number_of self)

-- deblock::deblock
pub deblock_deblock : (y u v strengths : List ℕ) (width height : ℕ) (simple : Bool) → One (λ o. o ≡ deblock_of (record { y = y; u = u; v = v }) strengths width height simple)
deblock_deblock y u v strengths width height simple = determined (deblock_of (record { y = y; u = u; v = v }) strengths width height simple)

-- ---- rescue
-- rescue::number
pub rescue_number : (answer : Rescued) → One (λ o. o ≡ rescue_number_of answer)
rescue_number answer = determined (rescue_number_of answer)

-- rescue::saved
pub rescue_saved : (answer : Rescued) → One (λ o. o ≡ saved_count_of answer)
rescue_saved answer = determined (saved_count_of answer)

-- rescue::rescue
pub rescue_rescue : (bytes : List ℕ) (tile : Tile) (header : List ℤ) (y u v columns modes strengths marks : List ℕ)
    → One (λ o. o ≡ rescue_of (call_of bytes tile header) (memory_of y u v columns modes strengths) marks)
rescue_rescue bytes tile header y u v columns modes strengths marks = determined (rescue_of (call_of bytes tile header) (memory_of y u v columns modes strengths) marks)

-- ---- profile
-- profile::rule_failed
pub profile_rule : (answer : Profiled) → One (λ o. o ≡ profile_rule_of answer)
profile_rule answer = determined (profile_rule_of answer)

-- profile::macroblock_named
pub profile_macroblock : (answer : Profiled) → One (λ o. o ≡ profile_block_of answer)
profile_macroblock answer = determined (profile_block_of answer)

-- profile::number
pub profile_number : (answer : Profiled) → One (λ o. o ≡ profile_number_of answer)
profile_number answer = determined (profile_number_of answer)

-- profile::profile
pub profile_profile : (bytes : List ℕ) (tile : Tile) (header : List ℤ) (y u v columns modes strengths : List ℕ) → One (λ o. o ≡ profile_of (call_of bytes tile header) (memory_of y u v columns modes strengths))
profile_profile bytes tile header y u v columns modes strengths = determined (profile_of (call_of bytes tile header) (memory_of y u v columns modes strengths))

-- ---- survey
-- survey::sums::add
pub survey_add : (counts other : List ℕ) → One (λ o. o ≡ add_of counts other)
survey_add counts other = determined (add_of counts other)

-- survey::survey
pub survey_survey : (bytes : List ℕ) (tile : Tile) (header : List ℤ) (y u v columns modes strengths counts : List ℕ)
    → One (λ o. o ≡ survey_of (call_of bytes tile header) (memory_of y u v columns modes strengths) counts)
survey_survey bytes tile header y u v columns modes strengths counts = determined (survey_of (call_of bytes tile header) (memory_of y u v columns modes strengths) counts)

-- ---- casefile
-- casefile::run::run
pub casefile_run : (file : List ℕ) → One (λ o. o ≡ ran_of file)
casefile_run file = determined (ran_of file)

-- ---- frame
-- frame::tables::updates
pub frame_updates : One (λ o. o ≡ update_probs)
frame_updates = determined update_probs

-- frame::tag::first_size
pub frame_first_size : (b : List ℕ) → One (λ o. o ≡ first_size_of b)
frame_first_size b = determined (first_size_of b)

-- frame::tag::good
pub frame_good : (b : List ℕ) → One (λ o. o ≡ tag_fine b)
frame_good b = determined (tag_fine b)

-- frame::take::refused
pub frame_refused_lem : (number : ℕ) → One (λ o. o ≡ refused_answer number)
frame_refused_lem number = determined (refused_answer number)

-- frame::take::nothing
pub frame_nothing : (number : ℕ) → One (λ o. o ≡ nothing_taken number)
frame_nothing number = determined (nothing_taken number)

-- frame::take::read
pub frame_read : (b s : List ℕ) → One (λ o. o ≡ coded_of b (run header s (first_reader s)))
frame_read b s = determined (coded_of b (run header s (first_reader s)))

-- ---- take
-- take::take
pub take_take : (bytes : List ℕ) → One (λ o. o ≡ taken_of bytes)
take_take bytes = determined (taken_of bytes)

-- take::take_into
pub take_take_into : (bytes : List ℕ) (header : List ℤ) → One (λ o. o ≡ into_of bytes header)
take_take_into bytes header = determined (into_of bytes header)

-- take::store
pub take_store : (header entries : List ℤ) → One (λ o. o ≡ stored_of header entries)
take_store header entries = determined (stored_of header entries)

-- ---- key_frame
-- key_frame::key_frame
pub key_frame_lem : (bytes : List ℕ) (header : List ℤ) (y u v columns modes strengths : List ℕ) → One (λ o. o ≡ key_frame_of bytes header (memory_of y u v columns modes strengths))
key_frame_lem bytes header y u v columns modes strengths = determined (key_frame_of bytes header (memory_of y u v columns modes strengths))

-- ---- webp
-- webp::read::find
pub webp_find : (bytes : List ℕ) → One (λ o. o ≡ find_of bytes)
webp_find bytes = determined (find_of bytes)

-- webp::read::FindError::number
pub webp_find_number : (self : FindError) → One (λ o. o ≡ find_error_number self)
webp_find_number self = determined (find_error_number self)

-- webp::write::WrapError::number
pub webp_wrap_number : (self : WrapError) → One (λ o. o ≡ wrap_error_number self)
webp_wrap_number self = determined (wrap_error_number self)

-- webp::write::wrap
pub webp_wrap : (frame out : List ℕ) → One (λ o. o ≡ wrap_of frame out)
webp_wrap frame out = determined (wrap_of frame out)

-- ---- writer
-- writer::Writer::fresh
pub writer_fresh : One (λ o. o ≡ fresh_writer)
writer_fresh = determined fresh_writer

-- writer::Writer::write
pub writer_write : (self : Writer) (out : List ℕ) (prob : ℕ) (bit : Bool) → One (λ o. o ≡ write_in self out prob bit)
writer_write self out prob bit = determined (write_in self out prob bit)

-- writer::Writer::flush
pub writer_flush : (self : Writer) (out : List ℕ) → One (λ o. o ≡ flush_answer self out)
writer_flush self out = determined (flush_answer self out)

-- ---- recode
-- recode::pipe::ask
pub recode_ask : (s : List ℕ) (p : Pipe) (out : List ℕ) (prob : ℕ) → One (λ o. o ≡ ask_of s p out prob)
recode_ask s p out prob = determined (ask_of s p out prob)

-- recode::tokens::recode_tokens
pub recode_tokens_lem : (bytes : List ℕ) (tile : Tile) (header : List ℤ) (y u v columns modes strengths out : List ℕ)
    → One (λ o. o ≡ tokens_of (call_of bytes tile header) (memory_of y u v columns modes strengths) out)
recode_tokens_lem bytes tile header y u v columns modes strengths out = determined (tokens_of (call_of bytes tile header) (memory_of y u v columns modes strengths) out)

-- recode::recode
pub recode_recode : (bytes : List ℕ) (tile : Tile) (header : List ℤ) (y u v columns modes strengths out : List ℕ)
    → One (λ o. o ≡ recode_of (call_of bytes tile header) (memory_of y u v columns modes strengths) out)
recode_recode bytes tile header y u v columns modes strengths out = determined (recode_of (call_of bytes tile header) (memory_of y u v columns modes strengths) out)

-- ---- recode_frame
-- recode_frame::recode_frame
pub recode_frame_lem : (bytes y u v columns modes strengths out : List ℕ) → One (λ o. o ≡ recode_frame_of bytes (memory_of y u v columns modes strengths) out)
recode_frame_lem bytes y u v columns modes strengths out = determined (recode_frame_of bytes (memory_of y u v columns modes strengths) out)

-- ---- boundary
-- boundary::tile_numbers::tile_of
pub boundary_tile_of : (n : List ℕ) → One (λ o. o ≡ tile_of_numbers n)
boundary_tile_of n = determined (tile_of_numbers n)

-- boundary::tile_numbers::numbers
pub boundary_numbers : (tile : Tile) (shown : ShownSize) (simple : ℕ) → One (λ o. o ≡ numbers_of_tile tile shown simple)
boundary_numbers tile shown simple = determined (numbers_of_tile tile shown simple)

-- boundary::tile_numbers::put_numbers
pub boundary_put_numbers : (tile n : List ℕ) → One (λ o. o ≡ put_of tile n)
boundary_put_numbers tile n = determined (put_of tile n)

-- boundary::frame_header::put_shown
pub boundary_put_shown : (tile : List ℕ) (a : Answer) → One (λ o. o ≡ tile_after tile a)
boundary_put_shown tile a = determined (tile_after tile a)

-- boundary::frame_header::frame_taken
pub boundary_frame_taken : (bytes : List ℕ) (header : List ℤ) (tile : List ℕ) → One (λ o. o ≡ frame_called_of bytes header tile)
boundary_frame_taken bytes header tile = determined (frame_called_of bytes header tile)

-- ---- samples
-- samples::deblocking::deblocked
pub samples_deblocked : (y u v strengths : List ℕ) (width height simple : ℕ) → One (λ o. o ≡ deblock_called_of (planes_of y u v) strengths width height simple)
samples_deblocked y u v strengths width height simple = determined (deblock_called_of (planes_of y u v) strengths width height simple)

-- samples::filtering::filtered
pub samples_filtered : (samples : List ℕ) (simple edge limit inner threshold : ℕ) → One (λ o. o ≡ filtered_of samples simple edge limit inner threshold)
samples_filtered samples simple edge limit inner threshold = determined (filtered_of samples simple edge limit inner threshold)

-- samples::explaining::explained
pub samples_explained : (samples : List ℕ) (simple edge limit inner threshold : ℕ) (after : List ℕ) (steps : List ℤ)
    → One (λ o. o ≡ explain_called_of samples simple edge limit inner threshold after steps)
samples_explained samples simple edge limit inner threshold after steps =
    determined (explain_called_of samples simple edge limit inner threshold after steps)

-- ---- files
-- files::webp_find::webp_found
pub files_webp_found : (bytes : List ℕ) → One (λ o. o ≡ webp_found_of bytes)
files_webp_found bytes = determined (webp_found_of bytes)

-- files::webp_wrap::webp_wrapped
pub files_webp_wrapped : (frame out : List ℕ) → One (λ o. o ≡ webp_wrapped_of frame out)
files_webp_wrapped frame out = determined (webp_wrapped_of frame out)

-- ---- hookbarley
-- ---- told
-- told::counts::tell_counts
pub told_counts : (k : ℕ) (reads : SymbolCounts) → One (λ o. o ≡ counts_of k reads)
told_counts k reads = determined (counts_of k reads)

-- told::rescued::tell_rescue
pub told_rescue : (answer : Rescued) → One (λ o. o ≡ rescue_told_of answer)
told_rescue answer = determined (rescue_told_of answer)

-- told::profiled::tell_profile
pub told_profile : (answer : Profiled) → One (λ o. o ≡ profile_told_of answer)
told_profile answer = determined (profile_told_of answer)

-- hookbarley::decoding::hookbarley_decode
pub hookbarley_decode_lem : (bytes : List ℕ) (header : List ℤ) (tile y u v columns modes strengths : List ℕ) → One (λ o. o ≡ called_of bytes header tile (memory_of y u v columns modes strengths))
hookbarley_decode_lem bytes header tile y u v columns modes strengths = determined (called_of bytes header tile (memory_of y u v columns modes strengths))

-- hookbarley::rescuing::hookbarley_rescue
pub hookbarley_rescue_lem : (bytes : List ℕ) (header : List ℤ) (tile y u v columns modes strengths marks : List ℕ) → One (λ o. o ≡ rescue_called_of bytes header tile (memory_of y u v columns modes strengths) marks)
hookbarley_rescue_lem bytes header tile y u v columns modes strengths marks = determined (rescue_called_of bytes header tile (memory_of y u v columns modes strengths) marks)

-- hookbarley::profiling::hookbarley_profile
pub hookbarley_profile_lem : (bytes : List ℕ) (header : List ℤ) (tile y u v columns modes strengths : List ℕ) → One (λ o. o ≡ profile_called_of bytes header tile (memory_of y u v columns modes strengths))
hookbarley_profile_lem bytes header tile y u v columns modes strengths = determined (profile_called_of bytes header tile (memory_of y u v columns modes strengths))

-- hookbarley::surveying::hookbarley_survey
pub hookbarley_survey_lem : (bytes : List ℕ) (header : List ℤ) (tile y u v columns modes strengths counts : List ℕ) → One (λ o. o ≡ survey_called_of bytes header tile (memory_of y u v columns modes strengths) counts)
hookbarley_survey_lem bytes header tile y u v columns modes strengths counts = determined (survey_called_of bytes header tile (memory_of y u v columns modes strengths) counts)

-- hookbarley::surveying::hookbarley_survey_add
pub hookbarley_survey_add_lem : (counts other : List ℕ) → One (λ o. o ≡ add_of counts other)
hookbarley_survey_add_lem counts other = determined (add_of counts other)

-- hookbarley::showing::hookbarley_key_frame
pub hookbarley_key_frame_lem : (bytes : List ℕ) (header : List ℤ) (tile y u v columns modes strengths : List ℕ) → One (λ o. o ≡ show_called_of bytes header tile (memory_of y u v columns modes strengths))
hookbarley_key_frame_lem bytes header tile y u v columns modes strengths = determined (show_called_of bytes header tile (memory_of y u v columns modes strengths))

-- hookbarley::recoding::hookbarley_recode
pub hookbarley_recode_lem : (bytes : List ℕ) (header : List ℤ) (tile y u v columns modes strengths out res : List ℕ) → One (λ o. o ≡ recode_called_of bytes header tile (memory_of y u v columns modes strengths) out res)
hookbarley_recode_lem bytes header tile y u v columns modes strengths out res = determined (recode_called_of bytes header tile (memory_of y u v columns modes strengths) out res)

-- hookbarley::frame_recoding::hookbarley_recode_frame
pub hookbarley_recode_frame_lem : (bytes y u v columns modes strengths out : List ℕ) → One (λ o. o ≡ recode_frame_of bytes (memory_of y u v columns modes strengths) out)
hookbarley_recode_frame_lem bytes y u v columns modes strengths out = determined (recode_frame_of bytes (memory_of y u v columns modes strengths) out)

-- hookbarley::deblocking::hookbarley_deblock
pub hookbarley_deblock_lem : (y u v strengths : List ℕ) (width height simple : ℕ) → One (λ o. o ≡ deblock_called_of (planes_of y u v) strengths width height simple)
hookbarley_deblock_lem y u v strengths width height simple = determined (deblock_called_of (planes_of y u v) strengths width height simple)

-- hookbarley::filtering::hookbarley_filter
pub hookbarley_filter_lem : (samples : List ℕ) (simple edge limit inner threshold : ℕ) → One (λ o. o ≡ filtered_of samples simple edge limit inner threshold)
hookbarley_filter_lem samples simple edge limit inner threshold = determined (filtered_of samples simple edge limit inner threshold)

-- hookbarley::explaining::hookbarley_explain
pub hookbarley_explain_lem : (samples : List ℕ) (simple edge limit inner threshold : ℕ) (after : List ℕ) (steps : List ℤ)
    → One (λ o. o ≡ explain_called_of samples simple edge limit inner threshold after steps)
hookbarley_explain_lem samples simple edge limit inner threshold after steps =
    determined (explain_called_of samples simple edge limit inner threshold after steps)

-- hookbarley::frame_header::hookbarley_frame
pub hookbarley_frame_lem : (bytes : List ℕ) (header : List ℤ) (tile : List ℕ) → One (λ o. o ≡ frame_called_of bytes header tile)
hookbarley_frame_lem bytes header tile = determined (frame_called_of bytes header tile)

-- hookbarley::webp_find::hookbarley_webp_find
pub hookbarley_webp_find_lem : (bytes : List ℕ) → One (λ o. o ≡ webp_found_of bytes)
hookbarley_webp_find_lem bytes = determined (webp_found_of bytes)

-- hookbarley::webp_wrap::hookbarley_webp_wrap
pub hookbarley_webp_wrap_lem : (frame out : List ℕ) → One (λ o. o ≡ webp_wrapped_of frame out)
hookbarley_webp_wrap_lem frame out = determined (webp_wrapped_of frame out)
