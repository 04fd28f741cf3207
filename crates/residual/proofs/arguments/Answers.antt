use Rattle.residual.proofs.arguments.Goals as goal

pub returns : goal.returns
returns c = rw (c.flags_fine.ensures, c.flags_fine-2.ensures)
