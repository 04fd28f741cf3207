use Rattle.recode.specs.PassLaws.{pass_measures}
use Rattle.recode.proofs.tokens.measure.Goals as goal

pub returns : goal.returns
returns c = pass_measures c.args.bytes.now c.args.tile c.args.header.now c.args.columns.now _ c.pass.ensures
