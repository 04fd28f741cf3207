use Rattle.blank.proofs.blank.Goals as goal

pub returns : goal.returns
returns c = rw (c.fill.ensures, c.fill-2.ensures, c.fill-3.ensures, c.fill-4.ensures, c.fill-5.ensures, c.fill-6.ensures)
