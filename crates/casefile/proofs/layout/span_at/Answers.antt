use Rattle.casefile.proofs.layout.span_at.Goals as goal

pub returns : goal.returns
returns c = rw (c.start_at.ensures, c.length_at.ensures.0)
