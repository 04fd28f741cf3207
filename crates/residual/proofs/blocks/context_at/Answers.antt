-- `context_at` meets its contract, which is that of `near` on the state's flags.
use Rattle.residual.proofs.blocks.context_at.Goals as goal

pub returns : goal.returns
returns c = c.near.ensures
