use Rattle.numbers.specs.Words.{arith, ◌≡◌, sym, ◌∙◌, length-set, placed_none, fit, rounded, there, w16, w32}
use Rattle.residual.specs.QuickLaws.{firsts_next}
use Rattle.residual.proofs.quick.set_firsts.Goals as goal

pub loop-k-init : goal.loop-k-init
loop-k-init c = (c.requires.0, omega arith, sym (placed_none _ _ _))

pub overflow_cast-flat : goal.overflow_cast-flat
overflow_cast-flat c = fit (there w32 (c.requires.1.at _) tt) tt

pub loop-k-preserved : goal.loop-k-preserved
loop-k-preserved c = (simp length-set c.loop-k.invariant.0, omega arith, firsts_next c.args.flat.now c.args.dc.now c.loop-k.k c.loop-k.invariant.2 (rounded w16 (there w32 (c.requires.1.at _) tt) tt).eq)

pub shape_of-flat : goal.shape_of-flat
shape_of-flat c = c.loop-k.invariant.0 ∙ sym c.requires.0

pub returns : goal.returns
returns c = let e : c.loop-k.k ≡ 16 = omega arith in rw e at c.loop-k.invariant.2
