-- `acting` meets its contract: a position a turn.
use Rattle.numbers.specs.Words.{ℕ, arith, refl, ◌∙◌, ap, List, filled_none, filled_next, filled_all}
use Rattle.filter.specs.Kernel.{samples_across}
use Rattle.straight.specs.Straight.{acts_of}
use Rattle.deblock.specs.Block.{acting_of}
use Rattle.deblock.proofs.edges.acting.Goals as goal

pub loop-i-init : goal.loop-i-init
loop-i-init c = filled_none _ 16 _ refl

pub across-e-requires : goal.across-e-requires
across-e-requires c = omega (arith, c.requires)

pub loop-i-preserved : goal.loop-i-preserved
loop-i-preserved c = filled_next c.acts.result (omega arith) (c.acts.ensures ∙ ap (λ (e : List ℕ). acts_of (samples_across e) c.args.g.simple c.args.g.limit c.args.g.inner) c.across-e.ensures) c.loop-i.invariant

pub returns : goal.returns
unfolding acting_of
returns c = filled_all (omega arith) c.loop-i.invariant
