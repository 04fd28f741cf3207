-- `entry` meets its contract: a byte widened is itself.
use Rattle.coefficients.proofs.block.entry.Goals as goal

pub returns : goal.returns
returns c = (c.from.ensures, rw c.from.ensures (c.requires.by_index c.args.n))
