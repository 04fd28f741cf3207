use Rattle.frame.specs.Entries.{numbers}
use Rattle.frame.proofs.entries.numbers.Goals as goal

pub returns : goal.returns
unfolding numbers
returns c = rw (c.with_quantizers.ensures, c.with_filter.ensures, c.with_segments.ensures)
