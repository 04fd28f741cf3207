use Rattle.modes.proofs.quick.large.Goals as goal

pub returns : goal.returns
returns c = c.fork.ensures
