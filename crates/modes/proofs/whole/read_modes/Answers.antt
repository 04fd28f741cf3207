use Rattle.numbers.specs.Words.{arith, ◌≡◌, sym, ◌∙◌, ap, true, get_or, w8, Fits, rules}
use Rattle.header.specs.FrameLaws.{Probabilities}
use Rattle.reader.specs.Reading.{given, run}
use Rattle.reader.specs.ReadingLaws.{Valid, valid_fact, run_valid}
use Rattle.wide.specs.Wide.{narrow_of}
use Rattle.modes.specs.Modes.{Modes, modes_of, contexts_of, macroblock_of, to_staged}
use Rattle.modes.specs.ModesLaws.{modes_within, above_fact, left_fact}
use Rattle.modes.specs.AnswersLaws.{modes_reader, modes_contexts, modes_good}
use Rattle.modes.specs.CountsLaws.{reads_good, reads_reader, reads_contexts, modes_read_lem}
use Rattle.modes.proofs.Steps.{wide_modes}
use Rattle.modes.proofs.whole.read_modes.Goals as goal
use Rattle.modes.proofs.whole.read_modes.Goals.{Else-not-contexts_fine, Else-not-inside}

pub returns-then-not-valid : goal.returns-then-not-valid
returns-then-not-valid c = let e = sym c.valid.ensures ∙ c.if-not-valid.true in (modes_reader _ _ _ _ _ _ e, reads_reader _ _ _ _ _ e)

pub returns-then-not-contexts_fine : goal.returns-then-not-contexts_fine
returns-then-not-contexts_fine c = let e = sym c.contexts_fine.ensures ∙ c.if-not-contexts_fine.true in (modes_contexts _ _ _ _ _ _ e, reads_contexts _ _ _ _ _ e)

-- what the tests showed
good : (c : Else-not-contexts_fine) → Valid c.args.s.now c.args.r
good c = valid_fact _ _ (sym c.valid.ensures ∙ c.if-not-valid.false)

fine : (c : Else-not-contexts_fine) → contexts_of c.args.top c.args.left ≡ true
fine c = sym c.contexts_fine.ensures ∙ c.if-not-contexts_fine.false

beside : (c : Else-not-contexts_fine) → Modes c.args.top × Modes c.args.left
beside c = (above_fact c.args.top c.args.left (fine c), left_fact c.args.top c.args.left (fine c))

known : (c : Else-not-contexts_fine) → Probabilities c.args.a
known c =
    record {
      map = λ i. let f : Fits w8 (get_or c.args.a.map_probabilities i 0) = search rules in f.fits;
      skip = let f : Fits w8 c.args.a.skip_probability = search rules in f.fits;
    }

pub quick-requires : goal.quick-requires
quick-requires c = beside (goal.at.quick-requires c).Else-not-contexts_fine

pub stage-requires : goal.stage-requires
stage-requires c = let t = (goal.at.stage-requires c).Else-not-contexts_fine in record { valid = good t; modes = beside t; probabilities = known t }

pub returns-then-not-inside : goal.returns-then-not-inside
returns-then-not-inside c =
    let t = (goal.at.returns-then-not-inside c).Else-not-contexts_fine in
    (c.stage.ensures.0 ∙ sym (modes_good _ _ _ _ _ _ (good t) (fine t)), c.stage.ensures.1.0 ∙ sym (reads_good _ _ _ _ _ (good t) (fine t)))

-- what was read inside the partition
gave : (c : Else-not-inside) → Valid c.args.s.now c.args.r → run (modes_of c.args.a c.args.top c.args.left) c.args.s.now c.args.r ≡ given (macroblock_of c.quick.result.0 c.quick.result.1) (narrow_of c.args.s.now c.quick.result.2)
gave c v = wide_modes c.args.s.now c.args.a c.args.r c.args.top c.args.left (λ i. (c.type_inv.s i).fits) v (omega (arith, c.well_formed.0)) c.widen.ensures c.quick.ensures c.inside.ensures c.if-not-inside.false

pub modes_read-reads-requires : goal.modes_read-reads-requires
modes_read-reads-requires c =
    let t = (goal.at.modes_read-reads-requires c).Else-not-contexts_fine in
    let e = run_valid (modes_within c.args.a (known t) c.args.top c.args.left) (λ i. (c.type_inv.s i).fits) (good t) (gave (goal.at.modes_read-reads-requires c).Else-not-inside (good t)) in
    (e.value.luma.each, e.value.chroma)

pub returns : goal.returns
returns c =
    let t = (goal.at.returns c).Else-not-contexts_fine in
    let e = gave (goal.at.returns c).Else-not-inside (good t) in (
      sym (ap (to_staged c.args.modes.now) (e ∙ ap (given (macroblock_of c.quick.result.0 c.quick.result.1)) (sym c.narrow.ensures))) ∙ sym (modes_good _ _ _ _ _ _ (good t) (fine t)),
      c.modes_read-reads.ensures ∙ sym (modes_read_lem c.args.a c.args.top c.args.left c.args.s.now c.args.r e) ∙ sym (reads_good _ _ _ _ _ (good t) (fine t)),
    )
