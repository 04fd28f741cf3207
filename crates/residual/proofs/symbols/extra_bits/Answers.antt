use Rattle.numbers.specs.Words.{ℕ, ◌+◌, arith, ◌∙◌, ap, bit_small}
use Rattle.wide.specs.WideLaws.{byte_bit}
use Rattle.wide.specs.WideRuns.{taking_start, taking_next, taking_small, taking_bits, taking_end}
use Rattle.residual.specs.SymbolsLaws.{ranged_fill}
use Rattle.residual.proofs.symbols.extra_bits.Goals as goal

pub loop-prob-init : goal.loop-prob-init
loop-prob-init c = (taking_start _ _ _, c.requires.0.1)

pub even-b-requires : goal.even-b-requires
even-b-requires c = (c.requires.0.0, ranged_fill _ c.fill-f.ensures c.loop-prob.invariant.1)

pub overflow_add-value : goal.overflow_add-value
overflow_add-value c = omega (arith, taking_small c.loop-prob.invariant.0 c.requires.1)

pub overflow_add-value-in-loop-prob : goal.overflow_add-value-in-loop-prob
overflow_add-value-in-loop-prob c = omega (arith, taking_small c.loop-prob.invariant.0 c.requires.1, c.from.ensures ∙ byte_bit c.even-b.result.on, bit_small c.even-b.result.on)

pub loop-prob-preserved : goal.loop-prob-preserved
loop-prob-preserved c = (taking_next c.loop-prob.invariant.0 c.loop-prob-test.true c.requires.1 (λ i. (c.shared_slice_known-1.given i).fits) (λ i. (c.shared_slice_known-2-1.given i).fits) c.fill-f.ensures c.even-b.ensures.0 (ap (λ (z : ℕ). c.loop-prob.value + c.loop-prob.value + z) (c.from.ensures ∙ byte_bit c.even-b.result.on)), c.even-b.ensures.1)

pub returns : goal.returns
returns c = (taking_end c.loop-prob.invariant.0 c.loop-prob-test.false, (taking_bits c.loop-prob.invariant.0, c.loop-prob.invariant.1))
