use Rattle.lent.specs.Memory.{memory_of}
use Rattle.choices.specs.Choices.{call_of}
use Rattle.survey.specs.SurveyLaws.{survey_long, survey_most, survey_found}
use Rattle.survey.proofs.survey.Goals as goal

pub returns-then-counts-ne-COUNTS : goal.returns-then-counts-ne-COUNTS
returns-then-counts-ne-COUNTS c =
    let a = c.args in
    survey_long (call_of a.bytes.now a.tile a.header.now) (memory_of a.y.now a.u.now a.v.now a.columns.now a.modes.now a.strengths.now) _ c.if-counts-ne-COUNTS.true

pub tally-added-requires : goal.tally-added-requires
tally-added-requires c =
    let a = c.args in
    survey_most (call_of a.bytes.now a.tile a.header.now) (memory_of a.y.now a.u.now a.v.now a.columns.now a.modes.now a.strengths.now) c.decode-d.ensures.0 c.finished-finished.ensures

pub returns : goal.returns
returns c =
    let a = c.args in
    survey_found (call_of a.bytes.now a.tile a.header.now) (memory_of a.y.now a.u.now a.v.now a.columns.now a.modes.now a.strengths.now) a.counts.now c.if-counts-ne-COUNTS.false c.decode-d.ensures.0 c.decode-d.ensures.1
    c.number-number.ensures c.finished-finished.ensures c.tally-added.ensures c.add-full.ensures _ c.told-told.ensures
