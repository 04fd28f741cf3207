use Rattle.recode.specs.Copies.{ask_copies}
use Rattle.recode.specs.TokenCopies.{taking_start, taking_next, taking_end}
use Rattle.recode.proofs.token.copy_extra.Goals as goal

pub loop-prob-init : goal.loop-prob-init
loop-prob-init c = taking_start _ _ _ _

pub loop-prob-preserved : goal.loop-prob-preserved
loop-prob-preserved c = taking_next c.loop-prob.invariant c.loop-prob-test.true (ask_copies (c.shared_slice_known-2-1.given _).fits c.ask-a.ensures) c.ask-a.auto.out

pub shape_of-out : goal.shape_of-out
shape_of-out c = c.loop-prob.invariant.long

pub returns : goal.returns
returns c = taking_end c.loop-prob.invariant c.loop-prob-test.false
