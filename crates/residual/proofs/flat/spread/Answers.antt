use Rattle.numbers.specs.Words.{arith, ◌≡◌, sym, ◌∙◌, length-set, back, w32}
use Rattle.residual.specs.ResidualSteps.{spread_none, spread_next}
use Rattle.residual.proofs.flat.spread.Goals as goal

pub loop-k-init : goal.loop-k-init
loop-k-init c = (c.requires, omega arith, spread_none _ _)

pub loop-k-preserved : goal.loop-k-preserved
loop-k-preserved c = (simp length-set c.loop-k.invariant.0, omega arith, spread_next _ _ _ c.loop-k.invariant.2 (back w32 c.flat-1.given))

pub shape_of-flat : goal.shape_of-flat
shape_of-flat c = c.loop-k.invariant.0 ∙ sym c.requires

pub returns : goal.returns
returns c = let e : c.loop-k.k ≡ 16 = omega arith in rw e at c.loop-k.invariant.2
