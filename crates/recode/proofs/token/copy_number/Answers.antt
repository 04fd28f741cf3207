use Rattle.numbers.specs.Words.{arith, sym}
use Rattle.reader.specs.TokenLaws.{eleven_at_lem}
use Rattle.recode.specs.Copies.{ask_copies}
use Rattle.recode.specs.TokenCopies.{walking_start, walking_next, walking_end}
use Rattle.recode.proofs.token.copy_number.Goals as goal

pub loop-i-init : goal.loop-i-init
loop-i-init c = walking_start _ _ _ _ _ (omega arith)

pub overflow_add-at : goal.overflow_add-at
overflow_add-at c = omega (arith, c.requires.at_in_bounds, c.loop-i-test.true)

pub bounds-table-at : goal.bounds-table-at
bounds-table-at c = omega (arith, c.requires.at_in_bounds, c.loop-i-test.true)

pub lead-i-requires : goal.lead-i-requires
lead-i-requires c = record { tree_value = c.requires.tree_value; node_bound = c.loop-i-test.true }

pub loop-i-smaller : goal.loop-i-smaller
loop-i-smaller c = omega (arith, c.lead-i.ensures.1, c.lead-i.ensures.2)

pub loop-i-preserved : goal.loop-i-preserved
loop-i-preserved c = walking_next c.loop-i.invariant c.loop-i-test.true (sym (eleven_at_lem _ _ _ c.loop-i-test.true)) (ask_copies (c.shared_slice_known-2-1.given _).fits c.ask-a.ensures) c.lead-i.ensures.0 c.lead-i.ensures.2 c.lead-i.ensures.1 c.ask-a.auto.out

pub overflow_cast-result : goal.overflow_cast-result
overflow_cast-result c = omega (arith, c.loop-i.invariant.low)

pub shape_of-out : goal.shape_of-out
shape_of-out c = c.loop-i.invariant.long

pub returns : goal.returns
returns c = (walking_end c.loop-i.invariant c.loop-i-test.false, omega (arith, c.loop-i.invariant.low))
