use Rattle.numbers.specs.Words.{arith, refl, ◌∙◌, filled_none, filled_next, filled_all, back, w16, w32}
use Rattle.residual.specs.Residual.{sixteen_at}
use Rattle.residual.proofs.quick.seconds.Goals as goal

pub loop-k-init : goal.loop-k-init
loop-k-init c = filled_none _ 16 _ refl

pub loop-k-preserved : goal.loop-k-preserved
loop-k-preserved c = filled_next _ (omega arith) (back w32 c.from.type_inv ∙ c.from.ensures ∙ back w16 c.from-arg-1.given) c.loop-k.invariant

pub returns : goal.returns
unfolding sixteen_at
returns c = filled_all (omega arith) c.loop-k.invariant
