use Rattle.numbers.specs.Words.{◌∙◌, ap, there, passed, w32}
use Rattle.header.specs.Quantizers.{index_with, ac_at}
use Rattle.header.proofs.quantizers.ac_moved.Goals as goal

pub moved-requires : goal.moved-requires
moved-requires c = passed w32 (c.requires.each.at c.args.at) tt tt

pub returns : goal.returns
returns c = (c.ac_step.ensures.0 ∙ ap ac_at (c.moved.ensures.0 ∙ ap (index_with _) (there w32 (c.requires.each.at c.args.at) tt).eq), c.ac_step.ensures.1)
