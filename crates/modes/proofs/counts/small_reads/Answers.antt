use Rattle.numbers.specs.Words.{arith, refl}
use Rattle.modes.proofs.Counted.{summed_start, summed_next, summed_end}
use Rattle.modes.proofs.counts.small_reads.Goals as goal

pub loop-mode-init : goal.loop-mode-init
loop-mode-init c = summed_start _

pub depth_of-reads-requires : goal.depth_of-reads-requires
depth_of-reads-requires c = record { depths_value = refl; mode_bound = c.requires c.loop-mode.mode-index }

pub overflow_add-reads : goal.overflow_add-reads
overflow_add-reads c = omega (arith, c.loop-mode.invariant.few, c.loop-mode.invariant.inside, c.depth_of-reads.ensures.1)

pub loop-mode-preserved : goal.loop-mode-preserved
loop-mode-preserved c = summed_next c.loop-mode.invariant c.loop-mode-test.true c.depth_of-reads.ensures.0 c.depth_of-reads.ensures.1

pub returns : goal.returns
returns c = summed_end c.loop-mode.invariant c.loop-mode-test.false
