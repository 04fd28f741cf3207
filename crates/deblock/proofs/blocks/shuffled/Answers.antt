-- `shuffled` meets its contract: two samples a turn.
use Rattle.numbers.specs.Words.{arith, refl, filled_none, filled_all}
use Rattle.deblock.specs.Block.{shuffled_of}
use Rattle.deblock.specs.BlockLaws.{shuffle_next}
use Rattle.deblock.proofs.blocks.shuffled.Goals as goal

pub loop-i-init : goal.loop-i-init
loop-i-init c = (omega arith, filled_none _ 128 _ refl)

pub loop-i-preserved : goal.loop-i-preserved
loop-i-preserved c = (omega arith, shuffle_next c.args.t.now (omega arith) c.loop-i.invariant.1)

pub returns : goal.returns
unfolding shuffled_of
returns c = filled_all (omega arith) c.loop-i.invariant.1
