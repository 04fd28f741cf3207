-- `turn_alone` meets its contract: a block a turn.
use Rattle.numbers.specs.Words.{arith, ◌≡◌, sym, ◌∙◌}
use Rattle.transform.specs.LanesLaws.{turned_none, turned_next}
use Rattle.transform.proofs.lanes.turn_alone.Goals as goal

pub loop-i-init : goal.loop-i-init
loop-i-init c = (omega arith, sym (turned_none _ _))

pub put_alone-requires : goal.put_alone-requires
put_alone-requires c = (c.requires.0, c.requires.1, omega arith)

pub loop-i-preserved : goal.loop-i-preserved
loop-i-preserved c = (omega arith, c.put_alone.ensures ∙ turned_next _ _ c.loop-i.i c.loop-i.invariant.1)

pub returns : goal.returns
returns c = let e : c.loop-i.i ≡ c.args.n = omega arith in rw e at c.loop-i.invariant.1
