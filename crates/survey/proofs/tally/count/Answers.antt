use Rattle.numbers.specs.Words.{◌+◌, arith}
use Rattle.survey.specs.TallyLaws.{counted_at, counted_off}
use Rattle.survey.proofs.tally.count.Goals as goal

pub overflow_add-counts : goal.overflow_add-counts
overflow_add-counts c = omega (arith, c.requires.roomy.below (c.args.table + c.from-at.result))

pub returns-then-at-rows : goal.returns-then-at-rows
returns-then-at-rows c = rw c.from-at.ensures (counted_at _ _ _ _ (rw c.from-at.ensures at c.if-at-rows.true))

pub returns-else-at-rows : goal.returns-else-at-rows
returns-else-at-rows c = counted_off _ _ _ _ (rw c.from-at.ensures at c.if-at-rows.false)
