use Rattle.residual.proofs.contexts.cleared.Goals as goal

pub returns-then-small : goal.returns-then-small
returns-then-small c = rw c.if-small.true
