-- `bias` meets its contract in each branch.
use Rattle.transform.proofs.bias.Goals as goal

pub returns-then-walsh : goal.returns-then-walsh
returns-then-walsh c = rw c.if-walsh.true

pub returns-else-walsh : goal.returns-else-walsh
returns-else-walsh c = rw c.if-walsh.false
