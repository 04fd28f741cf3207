use Rattle.numbers.specs.Words.{sym, ◌∙◌}
use Rattle.recode.specs.PassLaws.{pass_done, pass_no_table, pass_no_frame}
use Rattle.recode.proofs.tokens.pass.Goals as goal

pub returns-in_default : goal.returns-in_default
returns-in_default c = pass_no_table _ _ _ _ _ c.probabilities.ensures c.in_default.is

pub returns-in_default-take : goal.returns-in_default-take
returns-in_default-take c = pass_no_frame _ _ _ _ _ c.take.ensures c.in_default-take.is

pub returns : goal.returns
returns c =
    pass_done c.args.bytes.now c.args.tile c.args.header.now c.args.columns.now c.args.out.now (λ i. (c.shared_slice_known-1.given i).fits) c.fill.ensures
    (sym c.in-Some.is ∙ c.probabilities.ensures) (sym c.in-Some-take.is ∙ c.take.ensures) c.walk-w.ensures c.flush.ensures
