-- `modes_fine` meets its contract in each branch.
use Rattle.planes.specs.Paint.{paint_modes_fine}
use Rattle.planes.proofs.checks.modes_fine.Goals as goal

pub returns-then-small : goal.returns-then-small
unfolding paint_modes_fine
returns-then-small c = rw (c.if-small.true, c.each_below.ensures)

pub returns-else-small : goal.returns-else-small
unfolding paint_modes_fine
returns-else-small c = rw c.if-small.false
