use Rattle.numbers.specs.Words.{arith, sym, ◌∙◌}
use Rattle.residual.proofs.Turns.{going_start, going_end, turn_few, going_missing, going_next}
use Rattle.residual.proofs.blocks.blocks.Goals as goal

pub loop-i-init : goal.loop-i-init
loop-i-init c = going_start _ _ c.requires

pub block-t-requires : goal.block-t-requires
block-t-requires c = (c.loop-i.invariant.held, c.loop-i-test.true)

pub overflow_add-reads : goal.overflow_add-reads
overflow_add-reads c = record { fits = omega (arith, c.loop-i.invariant.few, c.loop-i-test.true, turn_few c.loop-i.invariant c.loop-i-test.true c.block-t.result _ c.block-t.ensures (λ i. (c.shared_slice_known-2-1.given i).fits)) }

pub shape_of-flat-in_default : goal.shape_of-flat-in_default
shape_of-flat-in_default c = c.flat-1.given ∙ (c.loop-i.invariant.held.whole.long ∙ sym c.requires.whole.long)

pub returns-in_default : goal.returns-in_default
returns-in_default c = going_missing c.loop-i.invariant c.loop-i-test.true c.block-t.result _ c.block-t.ensures c.in_default.is

pub loop-i-preserved : goal.loop-i-preserved
loop-i-preserved c =
    going_next c.loop-i.invariant c.loop-i-test.true c.block-t.result _ c.block-t.ensures
    (λ i. (c.shared_slice_known-1.given i).fits) (λ i. (c.shared_slice_known-2-1.given i).fits) c.in-Some.is

pub shape_of-flat : goal.shape_of-flat
shape_of-flat c = c.loop-i.invariant.held.whole.long ∙ sym c.requires.whole.long

pub returns : goal.returns
returns c = going_end c.loop-i.invariant c.loop-i-test.false
