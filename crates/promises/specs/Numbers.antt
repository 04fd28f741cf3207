-- The scope's numbers, of every public call that answers with one: which number where, and what stands beside it. After a refusal and where
-- a byte is missing that is nothing or zeros, and what is lent is as it was. `numbers_bind`, in NumbersLaws, proves all of it. The picture call
-- and the deblocking call have more of their own, in Refusals, Stops and Deblocked.
use Rattle.std.specs.Prelude.{◌+◌, ◌*◌, ◌≤◌, ◌<◌, ◌≡◌, ◌&&◌}
use Rattle.numbers.specs.Words.{ℕ, Bool, true, false, eqb, ltb, leb, List, length, get_or, replicate, ℤ, pos, negsuc, le_z, wrap_z, wrap16_of, wrap16_number_of, checked_number_of, Some, None, Err}
use Rattle.reader.specs.declared.boolean.Reader.{Reader}
use Rattle.reader.specs.Reading.{Given, given, missing, valid_of, symbol_of, to_read, symbol_answer, read_number_of, run}
use Rattle.reader.specs.Trees.{tree_of, walk, walk_answer}
use Rattle.reader.specs.Extra.{extra, extra_answer}
use Rattle.reader.specs.Token.{token, eleven_at, token_answer}
use Rattle.reader.specs.declared.boolean.Unread.TheVariants as Unread
use Rattle.header.specs.Header.{entry_count, header_of}
use Rattle.header.specs.Quantizers.{factors_of_of, quantizers_of, quantizers_number_of}
use Rattle.header.specs.Levels.{level_of_of, level_answer, level_number_of}
use Rattle.header.specs.Frame.{announced_of, frame_of, framed_of, frame_number_of, factors_at}
use Rattle.header.specs.declared.frame.Announced.{Announced}
use Rattle.header.specs.declared.frame.Frame.{Frame}
use Rattle.header.specs.declared.quantizers.Factors.{Factors}
use Rattle.coefficients.specs.Block as Tokens
use Rattle.coefficients.specs.Block.{magnitude, signed_value, block, header_table, numeric_of, number_answer, signed_answer, sixteen_bits, table_of, table_number_of}
use Rattle.transform.specs.Transform.{block_fits, samples_of, transform_of}
use Rattle.filter.specs.Kernel.{filter_of, pixel_of, pixel_number_of}
use Rattle.filter.specs.Strengths.{strength_of_of, no_strength, strength_answer, strengths_number_of, strengths_values_of, strength_fine_of}
use Rattle.filter.specs.declared.strengths.Strength.{Strength}
use Rattle.modes.specs.Modes.{prefix, large_mode_of, block_mode_of, small_modes_of, Macroblock, modes_of, to_sixteen, to_staged, contexts_of, each_below_of, prefix_answer, main_answer, block_answer, small_answer, modes_answer, next_number_of, empty_context, context_fine_of}
use Rattle.modes.specs.declared.answers.Kinds.{Kinds}
use Rattle.modes.specs.declared.contexts.Context.{Context}
use Rattle.residual.specs.Residual as Residual
use Rattle.residual.specs.Residual.{Model, residual_of, residual_number_of}
use Rattle.planes.specs.Paint.{square_blocks, square_painted, paint_fine, paint_of}
use Rattle.lent.specs.Memory.{record_at, records_in, packed, column_width, column_at, column_set, column_written, column_found, mode_width, kinds_at, modes_at, mode_set, kinds_fine_of, mode_written, mode_found, strength_width, segment_in, small_in, strength_at_of, strength_set, strength_written, strength_found, Memory}
use Rattle.macroblock.specs.declared.arguments.Place.{Place}
use Rattle.macroblock.specs.declared.arguments.Readers.{Readers}
use Rattle.macroblock.specs.declared.arguments.Around.{Around}
use Rattle.macroblock.specs.declared.ending.Unfinished.TheVariants as F
use Rattle.macroblock.specs.Macroblock as Macroblock
use Rattle.macroblock.specs.Macroblock.{Planes, Finished, MacroblockCalled, no_outcome, shown, end_of, ready_of, place_fine, finish_number_of}
use Rattle.casefile.specs.CaseFile.{well_formed_of, case_width, case_height, given_of}
use Rattle.casefile.specs.Run.{lent_of, malformed_ran, ran_of}
use Rattle.choices.specs.Choices.{number_of, values_of}
use Rattle.picture.specs.Picture.{picture_of}
use Rattle.frame.specs.declared.fields.Header.{Header}
use Rattle.frame.specs.Tag as Tag
use Rattle.frame.specs.Places.{partition_count, tokens_inside_of}
use Rattle.frame.specs.Take as Take
use Rattle.frame.specs.Take.{given_header, taken_of, into_of}
use Rattle.filter.specs.Explain.{explain_of}
use Rattle.deblock.specs.Deblock as Deblock
use Rattle.deblock.specs.Deblock.{deblock_of}
use Rattle.macroblock.specs.Rebuilt.{no_residual_of, legible_of, rebuild_call_of}
use Rattle.rescue.specs.Rescue.{rescue_of, rescue_number_of, saved_count_of}
use Rattle.samples.specs.FilterCalls.{flag_of, filtered_of, deblock_called_of}
use Rattle.hookbarley.specs.Calls.{called_numbers, handed_call, rescue_numbers, rescue_called_of, profile_numbers, profile_called_of, survey_numbers, to_survey_called, survey_called_of, result_of, recode_numbers, recode_called_of, shown_numbers, to_show_called, show_called_of}
use Rattle.survey.specs.Survey.{survey_of}
use Rattle.profile.specs.Profile.{profile_of, profile_rule_of, profile_block_of, profile_number_of}
use Rattle.recode.specs.Recode.{recode_of}
use Rattle.samples.specs.ExplainCalls.{rule_number_of, pair_number_of, explain_called_of}
use Rattle.boundary.specs.FrameCalls.{numbers_of, frame_called_of}
use Rattle.key_frame.specs.KeyFrame.{key_frame_of}
use Rattle.files.specs.WebpCalls.{webp_found_of, webp_wrapped_of}
use Rattle.webp.specs.Webp.{riff_size, most_size, file_of, marked_of, sized_of, lossy_of, filled_of, find_of, found_number_of, found_start_of, found_length_of, wrap_of, wrapped_number_of, wrapped_length_of}

-- ---- three kinds of call
-- a call that tries its arguments: `bad` and zeros where one is out of range, else 0. `values` is all that it gives besides its number, what is lent
-- included; `zeros` are zeros, or an answer that holds nothing, with what is lent as it was
pub record RefusedOr {X : Type 0} (bad : ℕ) (good : Bool) (number : ℕ) (values zeros whole : X) : Type 0 where
  pub refused : good ≡ false → (number ≡ bad) × (values ≡ zeros)
  pub fine : good ≡ true → (number ≡ 0) × (values ≡ whole)

-- a call that reads: 9 and its refusal where an argument is out of range; else `short` where a byte is missing; else 0 and what was asked. `to` is
-- how its answer says what was asked, what is lent included
pub record Answered {A X : Type 0} (short : ℕ) (good : Bool) (asked : Given A) (answer : X) (number : X → ℕ) (to : Given A → X) (refusal : X) : Type 0 where
  pub refused : good ≡ false → (number answer ≡ 9) × (answer ≡ refusal)
  pub cut : good ≡ true → asked ≡ missing → (number answer ≡ short) × (answer ≡ to missing)
  pub read : good ≡ true → {a : A} {r : Reader} → asked ≡ given a r → (number answer ≡ 0) × (answer ≡ to (given a r))

-- the call on a macroblock: 9 where an argument is out of range; 6 where its modes run out; 7 where its tokens do; then zeros, and the planes as
-- they were; else 0
pub record Steps (good : Bool) (modes : Given Macroblock) (tokens : Macroblock → Given Model) (called : MacroblockCalled) (old : Planes) (end : Macroblock → Reader → Model → Reader → Finished) : Type 0 where
  pub refused : good ≡ false → (finish_number_of called.answer.answer ≡ 9) × (called ≡ record { answer = no_outcome (Err F.Refused); planes = old })
  pub no_modes : good ≡ true → modes ≡ missing → (finish_number_of called.answer.answer ≡ 6) × (called ≡ record { answer = no_outcome (Err F.NoModes); planes = old })
  pub no_tokens : good ≡ true → {m : Macroblock} {r : Reader} → modes ≡ given m r → tokens m ≡ missing
      → (finish_number_of called.answer.answer ≡ 7) × (called ≡ record { answer = no_outcome (Err F.NoTokens); planes = old })
  pub done : good ≡ true → {m : Macroblock} {r : Reader} → modes ≡ given m r → {d : Model} {t : Reader} → tokens m ≡ given d t
      → (finish_number_of called.answer.answer ≡ 0) × (called ≡ record { answer = shown (end m r d t); planes = (end m r d t).planes })

-- the call on a frame's header, its tests in order: 12, 13, 14, 14, 13, and then all numbers and entries zero; else 0
pub record FrameNumbers (b : List ℕ) : Type 0 where
  pub tag : Tag.tag_fine b ≡ false → taken_of b ≡ Take.nothing_taken 12
  pub first : Tag.tag_fine b ≡ true → leb (Take.sizes_place b) (length b) ≡ false → taken_of b ≡ Take.nothing_taken 13
  pub under_two : Tag.tag_fine b ≡ true → leb (Take.sizes_place b) (length b) ≡ true → ltb (Tag.first_size_of b) 2 ≡ true → taken_of b ≡ Take.nothing_taken 14
  pub ran_out : Tag.tag_fine b ≡ true → leb (Take.sizes_place b) (length b) ≡ true → ltb (Tag.first_size_of b) 2 ≡ false → given_header b ≡ missing → taken_of b ≡ Take.nothing_taken 14
  pub tokens : Tag.tag_fine b ≡ true → leb (Take.sizes_place b) (length b) ≡ true → ltb (Tag.first_size_of b) 2 ≡ false → {h : Header} {r : Reader} → given_header b ≡ given h r
      → tokens_inside_of b (Take.sizes_place b) (partition_count h.partitions) ≡ false → taken_of b ≡ Take.nothing_taken 13
  pub taken : Tag.tag_fine b ≡ true → leb (Take.sizes_place b) (length b) ≡ true → ltb (Tag.first_size_of b) 2 ≡ false → {h : Header} {r : Reader} → given_header b ≡ given h r
      → tokens_inside_of b (Take.sizes_place b) (partition_count h.partitions) ≡ true → ((taken_of b).answer.number ≡ 0) × (taken_of b ≡ Take.whole_of b h r)
  -- a refusal's number is its own, and its tile, sizes and entries are zero
  pub zeros : (n : ℕ) → ((Take.nothing_taken n).answer ≡ Take.refused_answer n) × ((Take.nothing_taken n).answer.number ≡ n) × ((Take.nothing_taken n).header ≡ replicate entry_count (pos 0))

-- the WebP reader, its tests in order: 17, 18, 19, 18, and then place and length zero; else 0
pub record FindNumbers (s : List ℕ) : Type 0 where
  pub marks : marked_of s ≡ false → found_number_of (find_of s) ≡ 17
  pub size : marked_of s ≡ true → sized_of s ≡ false → found_number_of (find_of s) ≡ 18
  pub kind : marked_of s ≡ true → sized_of s ≡ true → lossy_of s ≡ false → found_number_of (find_of s) ≡ 19
  pub filled : marked_of s ≡ true → sized_of s ≡ true → lossy_of s ≡ true → filled_of s ≡ false → found_number_of (find_of s) ≡ 18
  pub found : marked_of s ≡ true → sized_of s ≡ true → lossy_of s ≡ true → filled_of s ≡ true → found_number_of (find_of s) ≡ 0
  pub zeros : (found_number_of (find_of s) ≡ 0 → ⊥) → (found_start_of (find_of s) ≡ 0) × (found_length_of (find_of s) ≡ 0)

-- the WebP writer: 18 where the RIFF size would pass its most, else 16 where the room is too small; then nothing is written; else 0
pub record WrapNumbers (frame out : List ℕ) : Type 0 where
  pub long : most_size < riff_size (length frame) → (wrapped_number_of (wrap_of frame out).answer ≡ 18) × ((wrap_of frame out).out ≡ out)
  pub room : riff_size (length frame) ≤ most_size → length out < length (file_of frame) → (wrapped_number_of (wrap_of frame out).answer ≡ 16) × ((wrap_of frame out).out ≡ out)
  pub written : riff_size (length frame) ≤ most_size → length (file_of frame) ≤ length out
      → (wrapped_number_of (wrap_of frame out).answer ≡ 0) × (wrapped_length_of (wrap_of frame out).answer ≡ length (file_of frame))
  pub zero : (wrapped_number_of (wrap_of frame out).answer ≡ 0 → ⊥) → wrapped_length_of (wrap_of frame out).answer ≡ 0

-- THE PROMISE: a field for each public call, by its path
pub record Numbers : Type 0 where
  -- numbers::wrap16: beyond a thousand million, either way
  pub wrap16 : (v : ℤ) → RefusedOr 9 (le_z (negsuc 999999999) v && le_z v (pos 1000000000)) (wrap16_number_of (wrap16_of v)) (wrap16_of v) None (Some (wrap_z v))
  -- ---- reader: a missing byte is whatever number the layer above gives it
  -- reader::boolean::Reader::symbol
  pub symbol : (short : ℕ) (s : List ℕ) (r : Reader) (prob : ℕ)
      → Answered short (valid_of s r) (symbol_of s r prob) (symbol_answer s r prob) (read_number_of short) to_read (Err Unread.Refused)
  -- reader::trees::walk_tree
  pub walk_tree_lem : (short : ℕ) (s probs : List ℕ) (tree : List ℤ) (start : ℕ) (r : Reader)
      → Answered short (valid_of s r && tree_of probs tree start) (run (walk 32 probs tree start) s r) (walk_answer s probs tree start r) (read_number_of short) to_read (Err Unread.Refused)
  -- reader::extra::extra_bits
  pub extra_bits_lem : (short : ℕ) (s probs : List ℕ) (r : Reader)
      → Answered short (valid_of s r && leb (length probs) 16) (run (extra probs) s r) (extra_answer s probs r) (read_number_of short) to_read (Err Unread.Refused)
  -- reader::token::walk_token
  pub walk_token_lem : (short : ℕ) (s table : List ℕ) (at : ℕ) (z : Bool) (r : Reader)
      → Answered short (valid_of s r && leb (at + 11) (length table)) (run (token (eleven_at table at) z) s r) (token_answer s table at z r) (read_number_of short) to_read (Err Unread.Refused)
  -- ---- header: 9
  -- header::quantizers::for_segment
  pub for_segment_lem : (h : List ℤ) (segment : ℕ) → RefusedOr 9 (header_of h && ltb segment 4) (quantizers_number_of (quantizers_of h segment)) (quantizers_of h segment) None (Some (factors_of_of h segment))
  -- header::levels::for_macroblock
  pub for_macroblock_lem : (h : List ℤ) (segment : ℕ) (small : Bool) → RefusedOr 9 (header_of h && ltb segment 4) (level_number_of (level_answer h segment small)) (level_answer h segment small) None (Some (level_of_of h segment small))
  -- header::frame::take
  pub header_take : (h : List ℤ) → RefusedOr 9 (header_of h) (frame_number_of (framed_of h)) (framed_of h) None (Some (frame_of h))
  -- ---- coefficients: a missing byte is 7
  -- coefficients::block::number
  pub number : (s : List ℕ) (token : ℕ) (r : Reader)
      → Answered 7 (valid_of s r && numeric_of token) (run (magnitude token) s r) (number_answer s token r) (read_number_of 7) to_read (Err Unread.Refused)
  -- coefficients::block::dequant
  pub dequant : (s : List ℕ) (token q : ℕ) (r : Reader)
      → Answered 7 (valid_of s r && numeric_of token) (run (signed_value token q) s r) (signed_answer s token q r) (read_number_of 7) to_read (Err Unread.Refused)
  -- coefficients::block::decode
  pub block_decode : (s : List ℕ) (r : Reader) (table : List ℕ) (kind ctx first q0 q1 : ℕ) (old : List ℤ)
      → Answered 7 (valid_of s r && (Tokens.block_arguments table kind ctx first && sixteen_bits old 16)) (run (block table kind q0 q1 ctx first old) s r)
      (Tokens.block_call_of s r table kind ctx first q0 q1 old) (λ c. read_number_of 7 c.answer) (Tokens.to_block_called old) (Tokens.refused_block old)
  -- coefficients::block::decode_header
  pub block_decode_header : (s : List ℕ) (r : Reader) (h : List ℤ) (kind ctx first q0 q1 : ℕ) (old : List ℤ)
      → Answered 7 (eqb (length h) entry_count && (valid_of s r && (Tokens.block_arguments (header_table h) kind ctx first && sixteen_bits old 16))) (run (block (header_table h) kind q0 q1 ctx first old) s r)
      (Tokens.block_by_header_of s r h kind ctx first q0 q1 old) (λ c. read_number_of 7 c.answer) (Tokens.to_block_called old) (Tokens.refused_block old)
  -- coefficients::block::probabilities
  pub probabilities : (h : List ℤ) → RefusedOr 9 (eqb (length h) entry_count) (table_number_of (table_of h)) (table_of h) None (Some (header_table h))
  -- transform::transform: 8
  pub transform : (c : List ℤ) (walsh : Bool) → RefusedOr 8 (block_fits c) (transform_of c walsh).number (transform_of c walsh).samples (replicate 16 (pos 0)) (samples_of walsh c)
  -- ---- filter: 9
  -- filter::pixel
  pub pixel : (e : List ℕ) (simple edge : Bool) (limit inner threshold k : ℕ)
      → RefusedOr 9 (ltb k 8) (pixel_number_of (pixel_of e simple edge limit inner threshold k)) (pixel_of e simple edge limit inner threshold k) None (Some (get_or (filter_of e simple edge limit inner threshold) k 0))
  -- filter::strengths::at_level
  pub at_level : (level sharp : ℕ) (inside : Bool) → RefusedOr 9 (leb level 63) (strengths_number_of (strength_answer level sharp inside)) (strengths_values_of (strength_answer level sharp inside)) no_strength (strength_of_of level sharp inside)
  -- ---- modes: a missing byte is 6
  -- modes::prefix::prefix
  pub modes_prefix : (s : List ℕ) (r : Reader) (h : List ℤ)
      → Answered 6 (eqb (length h) entry_count && valid_of s r) (run (prefix (announced_of h)) s r) (prefix_answer s r h) (read_number_of 6) to_read (Err Unread.Refused)
  -- modes::large::main_mode
  pub main_mode_lem : (s : List ℕ) (r : Reader) (chroma : Bool)
      → Answered 6 (valid_of s r) (run (large_mode_of chroma) s r) (main_answer s r chroma) (read_number_of 6) to_read (Err Unread.Refused)
  -- modes::small::block_mode
  pub block_mode_lem : (s : List ℕ) (r : Reader) (top left : ℕ)
      → Answered 6 (valid_of s r && (ltb top 10 && ltb left 10)) (run (block_mode_of top left) s r) (block_answer s r top left) (read_number_of 6) to_read (Err Unread.Refused)
  -- modes::small::small_modes
  pub small_modes_lem : (s : List ℕ) (r : Reader) (top left old : List ℕ)
      → Answered 6 (valid_of s r && contexts_of top left) (run (small_modes_of top left) s r) (small_answer s r top left old) (λ c. next_number_of c.answer) (to_sixteen old) (record { answer = Err Unread.Refused; modes = old })
  -- modes::whole::read_modes
  pub read_modes_lem : (s : List ℕ) (a : Announced) (r : Reader) (top left old : List ℕ)
      → Answered 6 (valid_of s r && contexts_of top left) (run (modes_of a top left) s r) (modes_answer s a r top left old) (λ c. read_number_of 6 c.answer) (to_staged old) (record { answer = Err Unread.Refused; modes = old })
  -- ---- residual: a missing byte is 7
  -- residual::decode
  pub residual_decode : (s : List ℕ) (r : Reader) (table : List ℕ) (f : Factors) (small skip : Bool) (top left : List ℕ) (old : List ℤ)
      → Answered 7 (valid_of s r && Residual.residual_arguments table top left (length old)) (run (residual_of table f small skip top left) s r)
      (Residual.residual_call_of s r table f small skip top left old) (λ c. residual_number_of c.answer.answer) (Residual.to_residual_called old) (Residual.refused_residual old)
  -- residual::decode_header
  pub residual_decode_header : (s : List ℕ) (r : Reader) (h : List ℤ) (segment : ℕ) (small skip : Bool) (top left : List ℕ) (old : List ℤ)
      → Answered 7 ((header_of h && ltb segment 4) && (valid_of s r && Residual.residual_arguments (header_table h) top left (length old))) (run (residual_of (header_table h) (factors_of_of h segment) small skip top left) s r)
      (Residual.residual_by_header_of s r h segment small skip top left old) (λ c. residual_number_of c.answer.answer) (Residual.to_residual_called old) (Residual.refused_residual old)
  -- planes::paint
  pub paint : (p : List ℕ) (w column row n : ℕ) (small : Bool) (mode : ℕ) (modes : List ℕ) (coefficients : List ℤ) (from : ℕ)
      → let c = square_blocks n from coefficients in
      RefusedOr 9 (paint_fine (length p) w column row n small mode modes c) (checked_number_of (paint_of p w column row n small mode modes c).answer) (paint_of p w column row n small mode modes c).plane
      p (square_painted p w (column * n) (row * n) n small mode modes c)
  -- ---- lent: 9
  -- lent::columns::write_column, read_column
  pub write_column_lem : (mem : List ℕ) (x : ℕ) (c : Context)
      → RefusedOr 9 (ltb x (records_in column_width mem) && context_fine_of c) (checked_number_of (column_written mem x c).answer) (column_written mem x c).mem mem (column_set packed mem x c)
  pub read_column_lem : (mem : List ℕ) (x : ℕ) → RefusedOr 9 (ltb x (records_in column_width mem)) (checked_number_of (column_found mem x).answer) (column_found mem x).context empty_context (column_at packed mem x)
  -- lent::macroblocks::write_mode_record, read_mode_record
  pub write_modes : (mem : List ℕ) (i : ℕ) (k : Kinds) (modes : List ℕ)
      → RefusedOr 9 (ltb i (records_in mode_width mem) && (kinds_fine_of k && each_below_of 10 modes)) (checked_number_of (mode_written mem i k modes).answer) (mode_written mem i k modes).mem mem (mode_set mem i k modes)
  pub modes_read_lem : (mem : List ℕ) (i : ℕ)
      → RefusedOr {X = Kinds × List ℕ} 9 (ltb i (records_in mode_width mem)) (checked_number_of (mode_found mem i).answer) ((mode_found mem i).kinds, (mode_found mem i).modes) (record { segment = 0; skip = false; small = false; chroma = 0 }, replicate 16 0) (kinds_at mem i, modes_at mem i)
  -- lent::macroblocks::write_strength, read_strength
  pub write_strength_lem : (mem : List ℕ) (i : ℕ) (t : Strength) (k : Kinds)
      → RefusedOr 9 (ltb i (records_in strength_width mem) && (strength_fine_of t && ltb k.segment 4)) (checked_number_of (strength_written mem i t k).answer) (strength_written mem i t k).mem mem (strength_set mem i t k)
  pub read_strength_lem : (mem : List ℕ) (i : ℕ)
      → RefusedOr {X = Strength × ℕ × Bool} 9 (ltb i (records_in strength_width mem)) (checked_number_of (strength_found mem i).answer) ((strength_found mem i).strength, (strength_found mem i).segment, (strength_found mem i).small)
      (no_strength, 0, false) (strength_at_of mem i, segment_in (record_at strength_width mem i), small_in (record_at strength_width mem i))
  -- whole::decode
  pub macroblock : (first tokens : List ℕ) (readers : Readers) (f : Frame) (table : List ℕ) (around : Around) (place : Place) (p : Planes)
      → Steps (ready_of first tokens readers f (length table) around && place_fine (length p.y) (length p.u) (length p.v) place)
      (run (modes_of f.announced around.top.modes around.left.modes) first readers.first)
      (λ m. run (residual_of table (factors_at f m.segment) m.small m.skip around.top.flags around.left.flags) tokens readers.token)
      (Macroblock.macroblock_call_of first tokens readers f table around place p) p (end_of f place p)
  -- rebuilt::rebuild: as if its tokens were there and gave no residual, so never 7
  pub rebuild : (first : List ℕ) (readers : Readers) (f : Frame) (around : Around) (place : Place) (p : Planes)
      → Steps (legible_of first readers.first f around && place_fine (length p.y) (length p.u) (length p.v) place)
      (run (modes_of f.announced around.top.modes around.left.modes) first readers.first)
      (λ m. given no_residual_of readers.token) (rebuild_call_of first readers f around place p) p (end_of f place p)
  -- casefile::run::run: 10 and zeros where the file is malformed, else the picture call's own number and k
  pub case_malformed : (s : List ℕ) → well_formed_of s ≡ false → ((ran_of s).number ≡ 10) × (ran_of s ≡ malformed_ran)
  pub case_told : (s : List ℕ) → well_formed_of s ≡ true
      → let e = picture_of (given_of s) (lent_of (case_width s) (case_height s)) in
      ((ran_of s).number ≡ number_of e.answer) × ((ran_of s).k ≡ values_of e.answer)
  -- take::take, take::take_into: 9 where the lent entries are not 1096, before anything else
  pub frame_take : (b : List ℕ) → FrameNumbers b
  pub frame_into_lem : (b : List ℕ) (old : List ℤ) → eqb (length old) entry_count ≡ false → ((into_of b old).answer.number ≡ 9) × (into_of b old ≡ record { answer = Take.refused_answer 9; header = old })
  pub frame_lent : (b : List ℕ) (old : List ℤ) → eqb (length old) entry_count ≡ true → (into_of b old).answer ≡ (taken_of b).answer
  -- webp::read::find, webp::write::wrap
  pub webp_find : (s : List ℕ) → FindNumbers s
  pub webp_wrap : (frame out : List ℕ) → WrapNumbers frame out
  -- ---- hookbarley: the calls from C, whose number is what they return. `hookbarley_decode` is in Called
  -- hookbarley::filtering::hookbarley_filter: 9 where there are not eight samples
  pub c_filter : (e : List ℕ) (simple edge limit inner threshold : ℕ)
      → let c = filtered_of e simple edge limit inner threshold in
      RefusedOr 9 (eqb (length e) 8) c.number c.samples e (filter_of e (flag_of simple) (flag_of edge) limit inner threshold)
  -- hookbarley::explaining::hookbarley_explain: 9 where there are not eight samples, and room for eight samples and eight steps
  pub c_explain : (e : List ℕ) (simple edge limit inner threshold : ℕ) (after : List ℕ) (steps : List ℤ)
      → let c = explain_called_of e simple edge limit inner threshold after steps in
      let x = explain_of e (flag_of simple) (flag_of edge) limit inner threshold in
      RefusedOr {X = (ℕ × ℕ) × List ℕ × List ℤ} 9 (eqb (length e) 8 && eqb (length after) 8 && eqb (length steps) 8) c.number ((c.rule, c.pair), c.after, c.steps)
      ((0, 0), after, steps) ((rule_number_of x.rule, pair_number_of x.rule), x.after, x.steps)
  -- hookbarley::frame_header::hookbarley_frame: 9 and nothing changed where there are not 28 numbers, else the number of `take_into`
  pub c_frame_room : (b : List ℕ) (header : List ℤ) (tile : List ℕ) → eqb (length tile) 28 ≡ false
      → frame_called_of b header tile ≡ record { number = 9; header = header; tile = tile }
  pub c_frame : (b : List ℕ) (header : List ℤ) (tile : List ℕ) → eqb (length tile) 28 ≡ true
      → frame_called_of b header tile ≡ record { number = (into_of b header).answer.number; header = (into_of b header).header; tile = numbers_of (into_of b header).answer }
  -- hookbarley::showing::hookbarley_key_frame: 9 and nothing changed where there are not 28 numbers, else the number of `key_frame` (KeyFrame)
  pub c_show_room : (b : List ℕ) (header : List ℤ) (tile : List ℕ) (m : Memory) → eqb (length tile) 28 ≡ false → show_called_of b header tile m ≡ shown_numbers 9 0 0 0 header tile m
  pub c_show : (b : List ℕ) (header : List ℤ) (tile : List ℕ) (m : Memory) → eqb (length tile) 28 ≡ true → show_called_of b header tile m ≡ to_show_called tile (key_frame_of b header m)
  -- hookbarley::rescuing::hookbarley_rescue: 9 and nothing changed where there are not 28 numbers, else the number of `rescue`
  pub c_rescue_room : (b : List ℕ) (header : List ℤ) (tile : List ℕ) (m : Memory) (marks : List ℕ) → eqb (length tile) 28 ≡ false → rescue_called_of b header tile m marks ≡ rescue_numbers 9 0 m marks
  pub c_rescue : (b : List ℕ) (header : List ℤ) (tile : List ℕ) (m : Memory) (marks : List ℕ) → eqb (length tile) 28 ≡ true
      → let e = rescue_of (handed_call b header tile) m marks in
      rescue_called_of b header tile m marks ≡ rescue_numbers (rescue_number_of e.answer) (saved_count_of e.answer) e.mem e.marks
  -- hookbarley::profiling::hookbarley_profile: 9 and nothing changed where there are not 28 numbers, else the number of `profile`
  pub c_profile_room : (b : List ℕ) (header : List ℤ) (tile : List ℕ) (m : Memory) → eqb (length tile) 28 ≡ false → profile_called_of b header tile m ≡ profile_numbers 9 0 0 m
  pub c_profile : (b : List ℕ) (header : List ℤ) (tile : List ℕ) (m : Memory) → eqb (length tile) 28 ≡ true
      → let e = profile_of (handed_call b header tile) m in
      profile_called_of b header tile m ≡ profile_numbers (profile_number_of e.answer) (profile_rule_of e.answer) (profile_block_of e.answer) e.mem
  -- hookbarley::surveying::hookbarley_survey: 9 and nothing changed where there are not 28 numbers, else as `survey`, of which Survey.antt speaks
  pub c_survey_room : (b : List ℕ) (header : List ℤ) (tile : List ℕ) (m : Memory) (counts : List ℕ) → eqb (length tile) 28 ≡ false → survey_called_of b header tile m counts ≡ survey_numbers (called_numbers 9 0 0 0 m) counts
  pub c_survey : (b : List ℕ) (header : List ℤ) (tile : List ℕ) (m : Memory) (counts : List ℕ) → eqb (length tile) 28 ≡ true → survey_called_of b header tile m counts ≡ to_survey_called (survey_of (handed_call b header tile) m counts)
  -- hookbarley::recoding::hookbarley_recode: 9 and nothing changed where there are not 28 numbers, and room for 28, else the number of `recode`
  pub c_recode_room : (b : List ℕ) (header : List ℤ) (tile : List ℕ) (m : Memory) (out result : List ℕ) → (eqb (length tile) 28 && eqb (length result) 28) ≡ false
      → recode_called_of b header tile m out result ≡ recode_numbers 9 m out result
  pub c_recode : (b : List ℕ) (header : List ℤ) (tile : List ℕ) (m : Memory) (out result : List ℕ) → (eqb (length tile) 28 && eqb (length result) 28) ≡ true
      → let e = recode_of (handed_call b header tile) m out in
      recode_called_of b header tile m out result ≡ recode_numbers e.answer.number e.mem e.out (result_of tile e.answer)
  -- hookbarley::deblocking::hookbarley_deblock, webp_find::hookbarley_webp_find, webp_wrap::hookbarley_webp_wrap: the number of the call below
  pub c_deblock : (d : Planes) (s : List ℕ) (w h simple : ℕ)
      → let o = deblock_of d s w h (flag_of simple) in
      deblock_called_of d s w h simple ≡ record { number = Deblock.deblock_number_of o.answer; planes = o.planes }
  pub c_webp_find : (s : List ℕ) → webp_found_of s ≡ record { number = found_number_of (find_of s); start = found_start_of (find_of s); len = found_length_of (find_of s) }
  pub c_webp_wrap : (frame out : List ℕ)
      → let o = wrap_of frame out in
      webp_wrapped_of frame out ≡ record { number = wrapped_number_of o.answer; written = wrapped_length_of o.answer; out = o.out }
