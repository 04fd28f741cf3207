-- `transform` meets its contract: it answers as the look at the coefficients says.
use Rattle.numbers.specs.Words.{sym, ◌∙◌}
use Rattle.transform.specs.Transform.{transform_of}
use Rattle.transform.specs.TransformLaws.{good_fit}
use Rattle.transform.proofs.transform.Goals as goal

pub samples-s-requires : goal.samples-s-requires
samples-s-requires c = record { coefficients_in = good_fit (sym c.look-seen.ensures.fits_value ∙ c.if-seen.true); plain_to = c.look-seen.ensures.plain_to }

pub returns-then-seen : goal.returns-then-seen
unfolding transform_of
returns-then-seen c = rw (← c.look-seen.ensures.fits_value, c.if-seen.true, c.samples-s.ensures)

pub returns-else-seen : goal.returns-else-seen
unfolding transform_of
returns-else-seen c = rw (← c.look-seen.ensures.fits_value, c.if-seen.false)
