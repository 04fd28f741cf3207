use Rattle.numbers.specs.Words.{◌-◌, arith, ◌∙◌}
use Rattle.wide.specs.Wide.{lifted_of}
use Rattle.wide.specs.WideLaws.{taken_fits}
use Rattle.residual.proofs.symbols.after.Goals as goal

pub taken-requires : goal.taken-requires
taken-requires c = omega (arith, c.requires.norms_value.1.0.most, c.requires.norms_value.1.1)

pub overflow_sub-w : goal.overflow_sub-w
overflow_sub-w c = rw c.taken.ensures (taken_fits _ _ _ c.requires.on_value)

pub part_of-requires : goal.part_of-requires
part_of-requires c = (c.requires.norms_value.1.1, c.requires.norms_value.1.0.most)

pub lifted-requires : goal.lifted-requires
lifted-requires c = (c.requires.norms_value.0, c.part_of.ensures.1)

pub returns : goal.returns
returns c = (c.lifted.ensures.0 ∙ (λ i. lifted_of c.args.w (c.args.w.value - c.taken.ensures i) (c.part_of.ensures.0 i)), c.lifted.ensures.1)
