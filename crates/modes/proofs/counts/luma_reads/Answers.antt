use Rattle.modes.proofs.counts.luma_reads.Goals as goal

pub returns-then-small : goal.returns-then-small
returns-then-small c = rw c.if-small.true c.small_reads.ensures
