use Rattle.numbers.specs.Words.{◌∙◌, ap, there, passed, w32}
use Rattle.header.specs.Quantizers.{index_with, dc_at}
use Rattle.header.proofs.quantizers.dc_moved.Goals as goal

pub moved-requires : goal.moved-requires
moved-requires c = passed w32 (c.requires.each.at c.args.at) tt tt

pub returns : goal.returns
returns c = (c.dc_step.ensures.0 ∙ ap dc_at (c.moved.ensures.0 ∙ ap (index_with _) (there w32 (c.requires.each.at c.args.at) tt).eq), c.dc_step.ensures.1)
