use Rattle.residual.proofs.blocks.skipped.Goals as goal

pub returns : goal.returns
returns c = rw (c.cleared-top_after.ensures, c.cleared-left_after.ensures)
