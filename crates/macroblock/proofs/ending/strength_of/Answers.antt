use Rattle.numbers.specs.Words.{ℕ, ◌∙◌, ap, not, ◌||◌}
use Rattle.filter.specs.Strengths.{strength_answer, strengths_values_of}
use Rattle.header.specs.Frame.{level_at}
use Rattle.macroblock.proofs.ending.strength_of.Goals as goal

pub returns : goal.returns
returns c =
    c.strength_at.ensures
    ∙ ap (λ (n : ℕ). strengths_values_of (strength_answer n c.args.frame.sharp (c.args.kinds.small || not c.args.empty))) (c.level_of-l.ensures ∙ ap (level_at c.args.frame c.args.kinds.small) c.from.ensures)
