-- `results` meets its contract: the array is filled, place by place.
use Rattle.numbers.specs.Words.{◌/◌, ◌%◌, arith, refl, ◌∙◌, ap, filled_none, filled_next, filled_all, there, answered, passed, w32}
use Rattle.transform.specs.Transform.{result_of, results_of}
use Rattle.transform.specs.TransformBounds.{result_in}
use Rattle.transform.proofs.results.Goals as goal

pub loop-k-init : goal.loop-k-init
loop-k-init c = filled_none _ 16 _ refl

pub result-requires : goal.result-requires
result-requires c = passed w32 (c.requires.at _ _) tt tt

pub loop-k-preserved : goal.loop-k-preserved
loop-k-preserved c =
    let i = c.requires.at (c.loop-k.k / 4) (c.loop-k.k % 4) in
    let e = (answered w32 (c.result.ensures ∙ ap (result_of c.args.walsh) (there w32 i tt).eq) (result_in c.args.walsh i) tt).eq in
    filled_next _ (omega arith) e c.loop-k.invariant

pub returns : goal.returns
unfolding results_of
returns c = filled_all (omega arith) c.loop-k.invariant
