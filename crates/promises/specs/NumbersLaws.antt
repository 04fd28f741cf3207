-- Every number that a call answers is the scope's: each by the definition of its answer, opened once.
use Rattle.std.specs.Prelude.{◌≡◌, ◌&&◌}
use Rattle.numbers.specs.Words.{ℕ, arith, refl, sym, ◌∙◌, ap, Bool, true, false, Some, Result, Ok, Err, cond, ⊎_elim, eqb, ltb, leb, eq_or, never, List, length, ℤ, wrap16_of, wrap16_number_of, checked_number_of}
use Rattle.reader.specs.declared.boolean.Reader.{Reader}
use Rattle.reader.specs.Reading.{Given, given, missing, valid_of, symbol_of, to_read, symbol_answer, read_number_of, run}
use Rattle.reader.specs.Trees.{walk, walk_of, walk_answer}
use Rattle.reader.specs.Extra.{extra, extra_of, extra_answer}
use Rattle.reader.specs.Token.{token, eleven_at, token_of, token_answer}
use Rattle.header.specs.Header.{entry_count, header_of}
use Rattle.header.specs.Quantizers.{factors_of_of, quantizers_of, quantizers_number_of}
use Rattle.header.specs.Levels.{level_answer, level_number_of}
use Rattle.header.specs.Frame.{announced_of, framed_of, frame_number_of}
use Rattle.transform.specs.declared.Transformed.{Transformed}
use Rattle.coefficients.specs.Block as Tokens
use Rattle.coefficients.specs.Block.{magnitude, signed_value, block, header_table, magnitude_of, number_answer, signed_of, signed_answer, sixteen_bits, table_of, table_number_of}
use Rattle.transform.specs.Transform.{transform_of}
use Rattle.filter.specs.Kernel.{pixel_of, pixel_number_of}
use Rattle.filter.specs.Strengths.{strength_answer, strengths_number_of, strengths_values_of}
use Rattle.modes.specs.Modes.{prefix, large_mode_of, block_mode_of, small_modes_of, Macroblock, modes_of, to_sixteen, to_staged, prefix_answer, main_answer, block_answer, small_answer, modes_answer, next_number_of}
use Rattle.residual.specs.Residual as Residual
use Rattle.residual.specs.Residual.{Model, residual_of, residual_number_of}
use Rattle.planes.specs.Paint.{PaintedPlane, paint_of}
use Rattle.lent.specs.Memory as Records
use Rattle.column.specs.Column.{digits_of}
use Rattle.lent.specs.Memory.{packed, context_in, kinds_in, modes_in, strength_in, segment_in, small_in, record_written, record_found}
use Rattle.macroblock.specs.declared.ending.Unfinished.TheVariants as F
use Rattle.macroblock.specs.Macroblock as Macroblock
use Rattle.macroblock.specs.Macroblock.{Planes, Finished, MacroblockCalled, to_macroblock_called, after_modes, after_tokens, no_outcome, end_of, finish_number_of}
use Rattle.casefile.specs.Run.{ran_of}
use Rattle.frame.specs.declared.fields.Header.{Header}
use Rattle.frame.specs.Tag as Tag
use Rattle.frame.specs.Places.{partition_count, tokens_inside_of}
use Rattle.frame.specs.Take as Take
use Rattle.frame.specs.Take.{given_header, taken_of, into_of}
use Rattle.samples.specs.FilterCalls.{Filtered, filtered_of, deblock_called_of}
use Rattle.samples.specs.ExplainCalls.{ExplainCalled, explain_called_of}
use Rattle.boundary.specs.FrameCalls.{frame_called_of}
use Rattle.hookbarley.specs.Calls.{rescue_called_of, profile_called_of, survey_called_of, recode_called_of, show_called_of}
use Rattle.macroblock.specs.Rebuilt.{rebuilt_of, rebuild_call_of}
use Rattle.files.specs.WebpCalls.{webp_found_of, webp_wrapped_of}
use Rattle.webp.specs.Webp.{find_of, found_number_of, found_start_of, found_length_of, wrap_of, wrapped_number_of, wrapped_length_of}
use Rattle.webp.specs.Webp as Webp
use Rattle.webp.specs.ReadLaws.{refusal_mark, refusal_size, refusal_kind, refusal_chunk, refusal_none, find_good, find_bad}
use Rattle.webp.specs.WriteLaws.{file_length, wrap_long, wrap_small, wrap_good}
use Rattle.frame.specs.declared.take.Taken.{Taken}
use Rattle.webp.specs.declared.read.Found.{Found}
use Rattle.webp.specs.declared.read.FindError.{FindError}
use Rattle.webp.specs.declared.write.WrapError.{WrapError}
use Rattle.promises.specs.Numbers.{RefusedOr, Answered, Steps, FrameNumbers, FindNumbers, WrapNumbers, Numbers}

-- ---- what a test picks
-- one of two, by a test
abbrev pick : {B : Type 0} → Bool → B → B → B
pick good x y = elim good [ true ↦ x | false ↦ y ]

checked : {B X : Type 0} {bad : ℕ} (good : Bool) {x y : B} (number : B → ℕ) (values : B → X) {zeros whole : X}
    → number y ≡ bad → values y ≡ zeros → number x ≡ 0 → values x ≡ whole → RefusedOr bad good (number (pick good x y)) (values (pick good x y)) zeros whole
checked true number values a b c d = record { refused = λ e. absurd (never refl e); fine = λ e. (c, d) }
checked false number values a b c d = record { refused = λ e. (a, b); fine = λ e. absurd (never e refl) }

-- the same of what `cond` picks
checked_cond : {B X : Type 0} {bad : ℕ} (good : Bool) {x y : B} (number : B → ℕ) (values : B → X) {zeros whole : X}
    → number y ≡ bad → values y ≡ zeros → number x ≡ 0 → values x ≡ whole → RefusedOr bad good (number (cond good x y)) (values (cond good x y)) zeros whole
checked_cond true number values a b c d = checked true number values a b c d
checked_cond false number values a b c d = checked false number values a b c d

reads : {A B : Type 0} {short : ℕ} (good : Bool) (asked : Given A) (number : B → ℕ) (to : Given A → B) {refusal : B}
    → number refusal ≡ 9 → number (to missing) ≡ short → ((a : A) (r : Reader) → number (to (given a r)) ≡ 0)
    → Answered short good asked (pick good (to asked) refusal) number to refusal
reads true asked number to n c w = record {
  refused = λ e. absurd (never refl e);
  cut = λ e f. (ap (λ g. number (to g)) f ∙ c, ap to f);
  read = λ e {a} {r} f. (ap (λ g. number (to g)) f ∙ w a r, ap to f);
}
reads false asked number to n c w = record {
  refused = λ e. (n, refl);
  cut = λ e f. absurd (never e refl);
  read = λ e f. absurd (never e refl);
}

-- two tests, one after the other
reads_both : {A B : Type 0} {short : ℕ} (one two : Bool) (asked : Given A) (number : B → ℕ) (to : Given A → B) {refusal : B}
    → number refusal ≡ 9 → number (to missing) ≡ short → ((a : A) (r : Reader) → number (to (given a r)) ≡ 0)
    → Answered short (one && two) asked (pick one (pick two (to asked) refusal) refusal) number to refusal
reads_both true two asked number to n c w = reads two asked number to n c w
reads_both false two asked number to n c w = reads false asked number to n c w

-- ---- the macroblock: both runs, one after the other
steps : {good : Bool} {modes : Given Macroblock} {tokens : Macroblock → Given Model} {old : Planes} (end : Macroblock → Reader → Model → Reader → Finished)
    → (b : Bool) → good ≡ b
    → Steps good modes tokens (pick good (to_macroblock_called old (after_modes (λ m r. after_tokens (end m r) (tokens m)) modes)) (record { answer = no_outcome (Err F.Refused); planes = old })) old end
steps {modes = modes} {tokens} {old} end true g = rw g (record {
  refused = λ e. absurd (never refl e);
  no_modes = λ e f. (ap (λ x. finish_number_of (whole x).answer.answer) f, ap whole f);
  no_tokens = λ e {m} {r} f h. (ap (λ x. finish_number_of (whole x).answer.answer) f ∙ ap (λ y. finish_number_of (half m r y).answer.answer) h, ap whole f ∙ ap (half m r) h);
  done = λ e {m} {r} f {d} {t} h. (ap (λ x. finish_number_of (whole x).answer.answer) f ∙ ap (λ y. finish_number_of (half m r y).answer.answer) h, ap whole f ∙ ap (half m r) h);
})
  where
    half : Macroblock → Reader → Given Model → MacroblockCalled
    half m r y = to_macroblock_called old (after_tokens (end m r) y)

    whole : Given Macroblock → MacroblockCalled
    whole x = to_macroblock_called old (after_modes (λ m r. after_tokens (end m r) (tokens m)) x)
steps end false g = rw g (record {
  refused = λ e. (refl, refl);
  no_modes = λ e f. absurd (never e refl);
  no_tokens = λ e f h. absurd (never e refl);
  done = λ e f h. absurd (never e refl);
})

-- ---- the calls that test one thing after the other
-- with the entries lent the answer is the same
lent : (b : List ℕ) (old : List ℤ) → eqb (length old) entry_count ≡ true → (into_of b old).answer ≡ (taken_of b).answer
unfolding into_of
lent b old e = let z : into_of b old ≡ pick (eqb (taken_of b).answer.number 0) (taken_of b) (record { answer = (taken_of b).answer; header = old }) = rw (e, into_of) in
    ap (λ (t : Taken). t.answer) z ∙ go (eqb (taken_of b).answer.number 0)
  where
    go : (c : Bool) → (pick c (taken_of b) (record { answer = (taken_of b).answer; header = old })).answer ≡ (taken_of b).answer
    go true = refl
    go false = refl

module _ (b : List ℕ) where
  coded : Tag.tag_fine b ≡ true → leb (Take.sizes_place b) (length b) ≡ true → ltb (Tag.first_size_of b) 2 ≡ false → {g : Given Header} → given_header b ≡ g → taken_of b ≡ Take.coded_of b g
  unfolding Take.taken_of
  coded e f g k = let z : taken_of b ≡ Take.coded_of b (given_header b) = rw (e, f, g, taken_of) in z ∙ ap (Take.coded_of b) k

  placed : (h : Header) (r : Reader) {inside : Bool} → tokens_inside_of b (Take.sizes_place b) (partition_count h.partitions) ≡ inside → Take.partitions_placed b h r ≡ pick inside (Take.whole_of b h r) (Take.nothing_taken 13)
  unfolding Take.partitions_placed
  placed h r e = rw (e, Take.partitions_placed)

  whole_number : (h : Header) (r : Reader) → (Take.whole_of b h r).answer.number ≡ 0
  unfolding Take.whole_of
  whole_number h r = refl

  frame_numbers : FrameNumbers b
  unfolding Take.taken_of Take.nothing_taken
  frame_numbers = record {
    tag = λ e. rw (e, taken_of);
    first = λ e f. rw (e, f, taken_of);
    under_two = λ e f g. rw (e, f, g, taken_of);
    ran_out = λ e f g k. coded e f g k;
    tokens = λ e f g {h} {r} k l. coded e f g k ∙ placed h r l;
    taken = λ e f g {h} {r} k l. let z : taken_of b ≡ Take.whole_of b h r = coded e f g k ∙ placed h r l in (ap (λ (t : Taken). t.answer.number) z ∙ whole_number h r, z);
    zeros = λ n. (refl, refl, refl);
  }

find_numbers : (s : List ℕ) → FindNumbers s
find_numbers s = record {
  marks = λ a. refused (refusal_mark _ _ _ _ a);
  size = λ a b. refused (refusal_size _ _ _ _ a b);
  kind = λ a b c. refused (refusal_kind _ _ _ _ a b c);
  filled = λ a b c d. refused (refusal_chunk _ _ _ _ a b c d);
  found = λ a b c d. ap found_number_of (sym (find_good s (sym (refusal_none _ _ _ _ a b c d))));
  zeros = zeros (find_of s);
}
  where
    refused : {e : FindError} → Some e ≡ Webp.found_refusal s → found_number_of (find_of s) ≡ Webp.find_error_number e
    refused h = ap found_number_of (sym (find_bad s (sym h)))

    zeros : (f : Result Found FindError) → (found_number_of f ≡ 0 → ⊥) → (found_start_of f ≡ 0) × (found_length_of f ≡ 0)
    zeros (Ok f) e = absurd (e refl)
    zeros (Err n) e = (refl, refl)

wrap_numbers : (frame out : List ℕ) → WrapNumbers frame out
wrap_numbers frame out = record {
  long = λ a. let w = wrap_long frame out (omega arith) in (ap (λ (e : Webp.WriteEnded). wrapped_number_of e.answer) (sym w), ap (λ (e : Webp.WriteEnded). e.out) (sym w));
  room = λ a b. let w = wrap_small frame out (omega arith) (omega (arith, file_length frame)) in (ap (λ (e : Webp.WriteEnded). wrapped_number_of e.answer) (sym w), ap (λ (e : Webp.WriteEnded). e.out) (sym w));
  written = λ a b. let w = wrap_good frame out (omega arith) (omega (arith, file_length frame)) in
      (ap (λ (e : Webp.WriteEnded). wrapped_number_of e.answer) (sym w), ap (λ (e : Webp.WriteEnded). wrapped_length_of e.answer) (sym w) ∙ sym (file_length frame));
  zero = zero (wrap_of frame out).answer;
}
  where
    zero : (w : Result ℕ WrapError) → (wrapped_number_of w ≡ 0 → ⊥) → wrapped_length_of w ≡ 0
    zero (Ok n) e = absurd (e refl)
    zero (Err n) e = refl

-- ---- THE PROMISE
pub numbers_bind : Numbers
unfolding wrap16_of symbol_answer walk_of walk_answer extra_of extra_answer token_of token_answer quantizers_of level_answer framed_of magnitude_of number_answer signed_of signed_answer Tokens.block_of Tokens.block_call_of Tokens.block_by_header_of table_of transform_of pixel_of strength_answer prefix_answer main_answer block_answer small_answer modes_answer Residual.residual_answer Residual.residual_call_of Residual.residual_by_header_of paint_of record_written record_found digits_of Macroblock.macroblock_call_of Macroblock.step_of ran_of into_of filtered_of explain_called_of frame_called_of rescue_called_of profile_called_of survey_called_of show_called_of recode_called_of rebuild_call_of rebuilt_of deblock_called_of webp_found_of webp_wrapped_of
numbers_bind = record {
  wrap16 = λ v. checked_cond _ wrap16_number_of (λ x. x) refl refl refl refl;
  symbol = λ short s r prob. reads _ (symbol_of s r prob) (read_number_of short) to_read refl refl (λ b q. refl);
  walk_tree_lem = λ short s probs tree start r. reads _ (run (walk 32 probs tree start) s r) (read_number_of short) to_read refl refl (λ v q. refl);
  extra_bits_lem = λ short s probs r. reads _ (run (extra probs) s r) (read_number_of short) to_read refl refl (λ v q. refl);
  walk_token_lem = λ short s table at z r. reads _ (run (token (eleven_at table at) z) s r) (read_number_of short) to_read refl refl (λ t q. refl);
  for_segment_lem = λ h segment. checked _ quantizers_number_of (λ x. x) refl refl refl refl;
  for_macroblock_lem = λ h segment small. checked _ level_number_of (λ x. x) refl refl refl refl;
  header_take = λ h. checked _ frame_number_of (λ f. f) refl refl refl refl;
  number = λ s token r. reads _ (run (magnitude token) s r) (read_number_of 7) to_read refl refl (λ v q. refl);
  dequant = λ s token q r. reads _ (run (signed_value token q) s r) (read_number_of 7) to_read refl refl (λ v p. refl);
  block_decode = λ s r table kind ctx first q0 q1 old. reads _ (run (block table kind q0 q1 ctx first old) s r) (λ c. read_number_of 7 c.answer) (Tokens.to_block_called old) refl refl (λ x q. refl);
  block_decode_header = λ s r h kind ctx first q0 q1 old. reads_both (eqb (length h) entry_count) (valid_of s r && (Tokens.block_arguments (header_table h) kind ctx first && sixteen_bits old 16)) (run (block (header_table h) kind q0 q1 ctx first old) s r) (λ c. read_number_of 7 c.answer) (Tokens.to_block_called old) {refusal = Tokens.refused_block old} refl refl (λ x q. refl);
  probabilities = λ h. checked _ table_number_of (λ t. t) refl refl refl refl;
  transform = λ c walsh. checked_cond _ (λ (t : Transformed). t.number) (λ (t : Transformed). t.samples) refl refl refl refl;
  pixel = λ e simple edge limit inner threshold k. checked_cond _ pixel_number_of (λ x. x) refl refl refl refl;
  at_level = λ level sharp inside. checked _ strengths_number_of strengths_values_of refl refl refl refl;
  modes_prefix = λ s r h. reads _ (run (prefix (announced_of h)) s r) (read_number_of 6) to_read refl refl (λ p q. refl);
  main_mode_lem = λ s r chroma. reads _ (run (large_mode_of chroma) s r) (read_number_of 6) to_read refl refl (λ v q. refl);
  block_mode_lem = λ s r top left. reads _ (run (block_mode_of top left) s r) (read_number_of 6) to_read refl refl (λ v q. refl);
  small_modes_lem = λ s r top left old. reads _ (run (small_modes_of top left) s r) (λ c. next_number_of c.answer) (to_sixteen old) refl refl (λ l q. refl);
  read_modes_lem = λ s a r top left old. reads _ (run (modes_of a top left) s r) (λ c. read_number_of 6 c.answer) (to_staged old) refl refl (λ m q. refl);
  residual_decode = λ s r table f small skip top left old. reads _ (run (residual_of table f small skip top left) s r) (λ c. residual_number_of c.answer.answer) (Residual.to_residual_called old) refl refl (λ m q. refl);
  residual_decode_header = λ s r h segment small skip top left old. reads_both (header_of h && ltb segment 4) (valid_of s r && Residual.residual_arguments (header_table h) top left (length old)) (run (residual_of (header_table h) (factors_of_of h segment) small skip top left) s r) (λ c. residual_number_of c.answer.answer) (Residual.to_residual_called old) {refusal = Residual.refused_residual old} refl refl (λ m q. refl);
  paint = λ p w column row n small mode modes c from. checked_cond _ (λ (x : PaintedPlane). checked_number_of x.answer) (λ (x : PaintedPlane). x.plane) refl refl refl refl;
  write_column_lem = λ mem x c. checked _ (λ (w : Records.Written). checked_number_of w.answer) (λ (w : Records.Written). w.mem) refl refl refl refl;
  read_column_lem = λ mem x. checked _ (λ (t : Records.FoundRecord). checked_number_of t.answer) (λ (t : Records.FoundRecord). context_in packed t.bytes) refl refl refl refl;
  write_modes = λ mem i k modes. checked _ (λ (w : Records.Written). checked_number_of w.answer) (λ (w : Records.Written). w.mem) refl refl refl refl;
  modes_read_lem = λ mem i. checked _ (λ (t : Records.FoundRecord). checked_number_of t.answer) (λ (t : Records.FoundRecord). (kinds_in t.bytes, modes_in t.bytes)) refl refl refl refl;
  write_strength_lem = λ mem i t k. checked _ (λ (w : Records.Written). checked_number_of w.answer) (λ (w : Records.Written). w.mem) refl refl refl refl;
  read_strength_lem = λ mem i. checked _ (λ (t : Records.FoundRecord). checked_number_of t.answer) (λ (t : Records.FoundRecord). (strength_in t.bytes, segment_in t.bytes, small_in t.bytes)) refl refl refl refl;
  macroblock = λ first tokens readers f table around place p. steps (end_of f place p) _ refl;
  rebuild = λ first readers f around place p. steps (end_of f place p) _ refl;
  case_malformed = λ s e. (rw (e, ran_of), rw (e, ran_of));
  case_told = λ s e. (rw (e, ran_of), rw (e, ran_of));
  frame_take = frame_numbers;
  frame_into_lem = λ b old e. (rw (e, into_of), rw (e, into_of));
  frame_lent = λ b old e. lent b old e;
  webp_find = find_numbers;
  webp_wrap = wrap_numbers;
  c_filter = λ e simple edge limit inner threshold. checked _ (λ (c : Filtered). c.number) (λ (c : Filtered). c.samples) refl refl refl refl;
  c_explain = λ e simple edge limit inner threshold after steps. checked _ (λ (c : ExplainCalled). c.number) (λ (c : ExplainCalled). ((c.rule, c.pair), c.after, c.steps)) refl refl refl refl;
  c_frame_room = λ b header tile e. rw (e, frame_called_of);
  c_frame = λ b header tile e. rw (e, frame_called_of);
  c_show_room = λ b header tile m e. rw (e, show_called_of);
  c_show = λ b header tile m e. rw (e, show_called_of);
  c_rescue_room = λ b header tile m marks e. rw (e, rescue_called_of);
  c_rescue = λ b header tile m marks e. rw (e, rescue_called_of);
  c_profile_room = λ b header tile m e. rw (e, profile_called_of);
  c_profile = λ b header tile m e. rw (e, profile_called_of);
  c_survey_room = λ b header tile m counts e. rw (e, survey_called_of);
  c_survey = λ b header tile m counts e. rw (e, survey_called_of);
  c_recode_room = λ b header tile m out result e. rw (e, recode_called_of);
  c_recode = λ b header tile m out result e. rw (e, recode_called_of);
  c_deblock = λ d s w h simple. refl;
  c_webp_find = λ s. refl;
  c_webp_wrap = λ frame out. refl;
}
