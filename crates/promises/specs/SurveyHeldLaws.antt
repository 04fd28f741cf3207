-- For a survey (request M-110): the records of a finished macroblock hold what its step made, and every value of them has its place in its table.
use Rattle.std.specs.Prelude.{◌≤◌, ◌<◌, ◌≡◌, ◌&&◌}
use Rattle.numbers.specs.Words.{Ok, ℕ, arith, refl, sym, ◌∙◌, ap, subst, ⊎_elim, leb, lit<, eq_or, both_right, leb-true, List, get_or}
use Rattle.reader.specs.ReadingLaws.{Bytes}
use Rattle.modes.specs.declared.answers.Kinds.{Kinds}
use Rattle.modes.specs.Modes.{kinds_of}
use Rattle.modes.specs.ModesLaws.{InRange}
use Rattle.filter.specs.declared.strengths.Strength.{Strength}
use Rattle.lent.specs.declared.macroblocks.ModeRecord.{ModeRecord}
use Rattle.lent.specs.Memory.{record_at, records_in, mode_width, mode_record, kinds_in, modes_in, kinds_at, modes_at, mode_set, mode_found, strength_width, strength_record, strength_in, strength_set, strength_found, Memory, sizes_of}
use Rattle.lent.specs.RecordsLaws.{record_same, record_set_in}
use Rattle.lent.specs.MacroblocksLaws.{kinds_back, modes_back, mode_read, strength_back, strength_is}
use Rattle.macroblock.specs.Macroblock.{Finished}
use Rattle.macroblock.specs.StepLaws.{step_ends}
use Rattle.choices.specs.Choices.{Call, refusal_of, number_of}
use Rattle.picture.specs.Picture.{Picture, State, Ended, pictured_of, begun_of, column_of, partition_of, planes_in, place_of, readers_at, around_at, picture_of, Live}
use Rattle.picture.specs.PictureLaws.{step_at_lem, column_below, partition_below, ready_at, ends_at, room_at}
use Rattle.survey.specs.TotalLaws.{InTables}
use Rattle.promises.specs.Refusals.{Fine, refused_changes_nothing}
use Rattle.promises.specs.Reached.{Ending, whole, modes_out, tokens_out}
use Rattle.promises.specs.ReachedLaws.{last}
use Rattle.promises.specs.Stops.{macroblocks, stops_at}
use Rattle.promises.specs.KeptLaws.{Sound, sound, live_reached}
use Rattle.promises.specs.Grey.{Made, done, FinishedOrGrey}
use Rattle.promises.specs.GreyLaws.{finished_or_grey}

-- ---- the picture call's number
ended_below : {P : Picture} {S : State} {M : ℕ} {E : Ended} → Ending P S M E → number_of E.answer < 8
ended_below (whole r) = lit< tt
ended_below (modes_out h r e) = lit< tt
ended_below (tokens_out h r e f) = lit< tt

pub number_below : (t : Call) (m : Memory) → number_of (picture_of t m).answer < 8
number_below t m = ⊎_elim (λ (e : Fine t m). ended_below (stops_at t m e).one) (λ b. omega (arith, (refused_changes_nothing t m b).most)) (eq_or (refusal_of t (sizes_of m)) 0)

-- ---- a finished macroblock
module _ (t : Call) (m : Memory) (b : Bytes t.bytes) (e : Fine t m) where
  abbrev p : Picture
  p = pictured_of t

  abbrev end : Memory
  end = (picture_of t m).mem

  z : Sound p (begun_of t m)
  z = sound t m b e

  g : FinishedOrGrey t m
  g = finished_or_grey t m b e

  upto : done t m ≤ macroblocks t
  upto = (last (stops_at t m e).one).upto

  live_end : Live p g.state
  live_end = live_reached z upto g.reached

  module _ (k : ℕ) (h : k < done t m) where
    below : k < macroblocks t
    below = omega (arith, upto)

    made : Made t m k
    made = g.before k h

    abbrev x : Finished
    x = made.made

    live : Live p made.found
    live = live_reached z (omega (arith, below)) made.reached

    token_bytes : Bytes (p.token (partition_of p k))
    token_bytes = z.tokens (partition_of p k) (partition_below p k below z.shared.least)

    range : InRange x.modes
    range =
        let S = made.found in
        (step_ends p.first (p.token (partition_of p k)) (readers_at S (partition_of p k)) p.frame p.table (around_at p S (column_of p k)) (place_of p k) (planes_in S.mem)
        (ready_at p S k z.shared live below (column_of p k) (partition_of p k) (column_below p k below) (partition_below p k below z.shared.least) refl refl)
        z.first token_bytes z.shared.bytes (sym (step_at_lem p k S) ∙ made.step)
        ).modes

    inside_below : x.strength.inside < 2
    inside_below =
        let s = x.strength in
        let f = (ends_at p made.found k z.shared live below z.first token_bytes x made.step).strength in
        omega (arith, leb-true s.inside 1 (both_right (leb s.limit 189 && leb s.inner 63 && leb s.threshold 2) (leb s.inside 1) f))

    -- its mode record
    kinds_held : mode_found end.modes k ≡ record { answer = Ok tt; kinds = kinds_of x.modes; modes = x.modes.modes }
    kinds_held =
        let old : List ℕ = made.found.mem.modes in
        let c : Kinds = kinds_of x.modes in
        let l : List ℕ = x.modes.modes in
        let there : k < records_in mode_width old = (room_at p made.found k z.shared live below).modes in
        let r : record_at mode_width end.modes k ≡ record_at mode_width (mode_set old k c l) k =
        record_same mode_width end.modes (mode_set old k c l) k k (λ j i. made.kinds j i ∙ sym (record_set_in mode_width old k (mode_record c l) (lit< tt) there j i)) in
        let a : kinds_at end.modes k ≡ c = ap kinds_in r ∙ kinds_back old k c l there range.luma.sixteen in
        let d : modes_at end.modes k ≡ l = ap modes_in r ∙ modes_back old k c l there range.luma.sixteen in
        mode_read end.modes k (subst (λ (n : Memory). k < records_in mode_width n.modes) (sym g.memory) (room_at p g.state k z.shared live_end below).modes)
        ∙ (λ i. record { answer = Ok tt; kinds = a i; modes = d i })

    -- its strengths
    strength_held : (strength_found end.strengths k).strength ≡ x.strength
    strength_held =
        let old : List ℕ = made.found.mem.strengths in
        let c : Kinds = kinds_of x.modes in
        let s : Strength = x.strength in
        let there : k < records_in strength_width old = (room_at p made.found k z.shared live below).strengths in
        let r : record_at strength_width end.strengths k ≡ record_at strength_width (strength_set old k s c) k =
        record_same strength_width end.strengths (strength_set old k s c) k k (λ j i. made.strength j i ∙ sym (record_set_in strength_width old k (strength_record s c) (lit< tt) there j i)) in
        strength_is end.strengths k refl (subst (λ (n : Memory). k < records_in strength_width n.strengths) (sym g.memory) (room_at p g.state k z.shared live_end below).strengths)
        ∙ ap strength_in r ∙ strength_back old k s c there

  good_tables : InTables (number_of (picture_of t m).answer) (done t m) end.modes end.strengths
  good_tables = record {
    answer = number_below t m;
    segment = λ k h. subst (λ (r : ModeRecord). r.kinds.segment < 4) (sym (kinds_held k h)) (range k h).segment;
    large = λ k h f. subst (λ (r : ModeRecord). get_or r.modes 0 0 < 4) (sym (kinds_held k h)) ((range k h).luma.large (sym (ap (λ (r : ModeRecord). r.kinds.small) (kinds_held k h)) ∙ f)).1;
    chroma = λ k h. subst (λ (r : ModeRecord). r.kinds.chroma < 4) (sym (kinds_held k h)) (range k h).chroma;
    inside = λ k h. subst (λ (s : Strength). s.inside < 2) (sym (strength_held k h)) (inside_below k h);
    sub = λ k h i l. subst (λ (r : ModeRecord). get_or r.modes i 0 < 10) (sym (kinds_held k h)) ((range k h).luma.each i);
  }

-- every value has its place, whatever the call answers
pub in_tables : (t : Call) (m : Memory) → Bytes t.bytes → InTables (number_of (picture_of t m).answer) (done t m) (picture_of t m).mem.modes (picture_of t m).mem.strengths
in_tables t m b = ⊎_elim
    (λ (e : Fine t m). good_tables t m b e)
    (λ n.
    let f : done t m ≡ 0 = (refused_changes_nothing t m n).none in
    record {
      answer = number_below t m;
      segment = λ k h. absurd (omega (arith, f));
      large = λ k h. absurd (omega (arith, f));
      chroma = λ k h. absurd (omega (arith, f));
      inside = λ k h. absurd (omega (arith, f));
      sub = λ k h. absurd (omega (arith, f));
    })
    (eq_or (refusal_of t (sizes_of m)) 0)
