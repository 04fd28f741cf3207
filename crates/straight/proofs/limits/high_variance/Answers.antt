-- `high_variance` meets its contract.
use Rattle.straight.specs.BytesLaws.{variance_bytes}
use Rattle.straight.proofs.limits.high_variance.Goals as goal

pub returns : goal.returns
returns c = rw (c.max.ensures, c.distance.ensures, c.distance-2.ensures) (variance_bytes _ _)
