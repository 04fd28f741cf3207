use Rattle.recode.specs.BlockCopies.{residual_skipped, residual_read}
use Rattle.recode.proofs.block.copy_residual.Goals as goal

pub returns-then-skip : goal.returns-then-skip
returns-then-skip c = residual_skipped c.args.table.now c.args.small c.args.m c.if-skip.true c.cleared-above.ensures c.cleared-beside.ensures

pub returns : goal.returns
returns c = residual_read c.args.table.now c.args.small c.if-skip.false c.copy_parts.ensures
