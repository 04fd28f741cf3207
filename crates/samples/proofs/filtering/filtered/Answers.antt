use Rattle.samples.specs.FilterCallsLaws.{filtered_refused, filtered_is}
use Rattle.samples.proofs.filtering.filtered.Goals as goal

pub returns-then-samples-ne8 : goal.returns-then-samples-ne8
returns-then-samples-ne8 c = filtered_refused _ _ _ _ _ _ c.if-samples-ne8.true

pub returns : goal.returns
returns c = filtered_is _ _ _ _ _ _ c.if-samples-ne8.false c.eight_samples-before.ensures c.filter-after.ensures c.put_samples.ensures
