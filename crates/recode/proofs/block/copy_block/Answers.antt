use Rattle.numbers.specs.Words.{arith, ◌≡◌, refl, ◌∙◌}
use Rattle.coefficients.specs.Block.{bands}
use Rattle.recode.specs.BlockCopies.{blocking_start, blocking_next, blocking_over, blocking_end}
use Rattle.recode.proofs.block.copy_block.Goals as goal

pub loop-n-init : goal.loop-n-init
loop-n-init c = blocking_start _ _ _ _ _ _ _ c.requires.kind_bound.2 c.requires.kind_bound.1

pub place-at-requires : goal.place-at-requires
unfolding bands
place-at-requires c = record { table_value = refl; kind_bound = (c.requires.kind_bound.0, c.loop-n-test.true, c.loop-n.invariant.few) }

pub copy_token-t-requires : goal.copy_token-t-requires
copy_token-t-requires c = record { tree_value = refl; at_in_bounds = omega (arith, c.place-at.ensures.1, c.requires.table_len) }

pub shape_of-out-then-token-eq0 : goal.shape_of-out-then-token-eq0
shape_of-out-then-token-eq0 c = c.copy_token-t.auto.out ∙ c.loop-n.invariant.long

pub returns-then-token-eq0 : goal.returns-then-token-eq0
returns-then-token-eq0 c = blocking_over c.loop-n.invariant c.loop-n-test.true c.place-at.ensures.0 c.copy_token-t.ensures.0 c.if-token-eq0.true

pub copy_rest-next-requires : goal.copy_rest-next-requires
copy_rest-next-requires c = omega (arith, c.if-token-eq0.false, c.copy_token-t.ensures.1)

pub loop-n-preserved : goal.loop-n-preserved
loop-n-preserved c = blocking_next c.loop-n.invariant c.loop-n-test.true c.place-at.ensures.0 c.copy_token-t.ensures.0 c.if-token-eq0.false c.copy_rest-next.ensures c.near-context.ensures.0 c.near-context.ensures.1 refl c.copy_token-t.auto.out c.copy_rest-next.auto.out

pub shape_of-out : goal.shape_of-out
shape_of-out c = c.loop-n.invariant.long

pub returns : goal.returns
returns c = let e : c.loop-n.n ≡ 16 = omega (arith, c.loop-n.invariant.most, c.loop-n-test.false) in rw e at (blocking_end c.loop-n.invariant c.loop-n-test.false)
