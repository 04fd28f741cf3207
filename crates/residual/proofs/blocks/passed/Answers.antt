use Rattle.residual.proofs.blocks.passed.Goals as goal

pub returns : goal.returns
returns c = rw (c.flagged-top_after.ensures, c.flagged-left_after.ensures)
