-- `moved` meets its contract: the loop stores a sample a turn.
use Rattle.numbers.specs.Words.{arith, refl, ◌∙◌, ap, get_or, filled_none, filled_next, filled_all, ℤ, pos, ◌+ℤ◌, there, passed, clip_z, w16}
use Rattle.filter.specs.Kernel.{moved_of}
use Rattle.filter.proofs.steps.moved.Goals as goal

pub loop-i-init : goal.loop-i-init
loop-i-init c = filled_none _ 8 _ refl

pub plus-requires : goal.plus-requires
plus-requires c = passed w16 (c.requires.at _) tt tt

pub loop-i-preserved : goal.loop-i-preserved
loop-i-preserved c =
    filled_next c.plus.result (omega arith)
    (c.plus.ensures ∙ ap (λ (z : ℤ). clip_z (pos (get_or c.args.e.now c.loop-i.i 0) +ℤ z)) (there w16 (c.requires.at c.loop-i.i) tt).eq) c.loop-i.invariant

pub returns : goal.returns
unfolding moved_of
returns c = filled_all (omega arith) c.loop-i.invariant
