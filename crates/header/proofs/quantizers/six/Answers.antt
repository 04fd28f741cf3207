use Rattle.numbers.specs.Words.{◌∙◌, ap, min}
use Rattle.header.specs.QuantizersLaws.{six_are}
use Rattle.header.proofs.quantizers.six.Goals as goal

pub returns : goal.returns
returns c =
    six_are _ _ _ c.base-index.ensures.0 c.dc_moved.ensures.0 c.ac_step.ensures.0 c.dc_moved-2.ensures.0
    c.ac_moved.ensures.0 c.second_ac.ensures c.dc_moved-3.ensures.0 c.min.ensures c.ac_moved-2.ensures.0
