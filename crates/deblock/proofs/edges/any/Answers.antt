-- `any` meets its contract: where it finds none so far, none was.
use Rattle.numbers.specs.Words.{arith}
use Rattle.deblock.specs.BlockLaws.{none_next}
use Rattle.deblock.proofs.edges.any.Goals as goal

pub loop-i-init : goal.loop-i-init
loop-i-init c = (omega arith, λ e k h. absurd (omega arith))

pub loop-i-preserved : goal.loop-i-preserved
loop-i-preserved c = (omega arith, none_next c.args.m.now c.loop-i.found c.loop-i.i c.loop-i.invariant.1)

pub returns : goal.returns
returns c = λ e i h. c.loop-i.invariant.1 e i (omega arith)
