use Rattle.numbers.specs.Words.{not-false, not-true}
use Rattle.wide.specs.WideRuns.{reads_as, reads_done}
use Rattle.modes.proofs.Steps.{no_segment, some_segment}
use Rattle.modes.proofs.quick.segment.Goals as goal

pub returns-then-not-a : goal.returns-then-not-a
returns-then-not-a c = reads_as _ 0 4 (no_segment _ (not-true _ c.if-not-a.true)) (reads_done _ 0 4 0)

pub returns : goal.returns
returns c = reads_as _ 0 4 (some_segment _ (not-false _ c.if-not-a.false)) c.fork.ensures
