-- `probabilities` meets its contract. The loop's invariant: the bytes passed are the header's.
use Rattle.numbers.specs.Words.{◌+◌, arith, refl, ◌∙◌, ap, filled_none, filled_next, filled_all, back, w32}
use Rattle.header.specs.Header.{coefficient_probability, entry, probability_of}
use Rattle.coefficients.specs.BlockSteps.{table_refused, table_done}
use Rattle.coefficients.specs.Block.{header_table}
use Rattle.coefficients.proofs.block.probabilities.Goals as goal

pub returns-then-h-ne-ENTRY_COUNT : goal.returns-then-h-ne-ENTRY_COUNT
returns-then-h-ne-ENTRY_COUNT c = table_refused _ c.if-h-ne-ENTRY_COUNT.true

pub loop-i-init : goal.loop-i-init
loop-i-init c = filled_none _ 1056 _ refl

pub loop-i-preserved : goal.loop-i-preserved
loop-i-preserved c = filled_next c.probability.result (omega arith) (c.probability.ensures ∙ ap probability_of (back w32 {z = entry c.args.h.now (coefficient_probability + c.loop-i.i)} c.probability-arg-1.given)) c.loop-i.invariant

pub returns : goal.returns
unfolding header_table
returns c = table_done _ c.if-h-ne-ENTRY_COUNT.false (filled_all (omega arith) c.loop-i.invariant)
