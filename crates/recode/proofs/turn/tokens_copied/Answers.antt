use Rattle.recode.specs.TurnCopies.{flow_is}
use Rattle.recode.proofs.turn.tokens_copied.Goals as goal

pub copy_residual-requires : goal.copy_residual-requires
copy_residual-requires c = c.requires

pub returns : goal.returns
returns c = flow_is c.args.tokens.now c.args.table.now c.args.task c.args.around c.args.kinds.small c.args.kinds.skip c.widen-reader.ensures c.copy_residual.ensures
