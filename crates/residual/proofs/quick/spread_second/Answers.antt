use Rattle.numbers.specs.Words.{◌∙◌, ap, true, List, ℤ}
use Rattle.transform.specs.declared.Transformed.{Transformed}
use Rattle.transform.specs.Transform.{transform_of}
use Rattle.residual.specs.Residual.{stored}
use Rattle.residual.specs.QuickLaws.{samples_in}
use Rattle.residual.proofs.quick.spread_second.Goals as goal

pub set_firsts-requires : goal.set_firsts-requires
set_firsts-requires c = (c.requires, samples_in _ c.transform-t.ensures)

pub returns : goal.returns
returns c =
    c.set_firsts.ensures
    ∙ ap (λ (x : Transformed). stored c.args.flat.now 0 x.samples) (c.transform-t.ensures ∙ ap (λ (x : List ℤ). transform_of x true) c.seconds-c.ensures)
