use Rattle.numbers.specs.Words.{sym, ◌∙◌}
use Rattle.survey.specs.TallyLaws.{blocking_start, blocking_room, blocking_next, blocking_end}
use Rattle.survey.proofs.tally.blocks.Goals as goal

pub loop-k-init : goal.loop-k-init
loop-k-init c = blocking_start _ _ _ _ c.requires.roomy c.requires.n_bound

pub block-requires : goal.block-requires
block-requires c = blocking_room _ _ _ _ _ _ c.loop-k.invariant

pub loop-k-preserved : goal.loop-k-preserved
loop-k-preserved c = blocking_next _ _ _ _ _ _ c.loop-k.invariant c.block.ensures c.loop-k-test.true

pub shape_of-counts : goal.shape_of-counts
shape_of-counts c = (blocking_room _ _ _ _ _ _ c.loop-k.invariant).long ∙ sym c.requires.roomy.long

pub returns : goal.returns
returns c = blocking_end _ _ _ _ _ _ c.loop-k.invariant c.loop-k-test.false
