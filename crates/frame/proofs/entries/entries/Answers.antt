use Rattle.frame.specs.EntriesLaws.{value_stored, number_small}
use Rattle.numbers.specs.Words.{arith, refl, filled_none, filled_next, filled_all}
use Rattle.frame.specs.Entries.{entries}
use Rattle.frame.proofs.entries.entries.Goals as goal

pub loop-i-init : goal.loop-i-init
loop-i-init c = filled_none _ 1096 _ refl

pub value-requires : goal.value-requires
value-requires c = rw (c.number_at.ensures, c.numbers-first.ensures) (number_small _ c.requires _)

pub loop-i-preserved : goal.loop-i-preserved
loop-i-preserved c = filled_next _ c.loop-i-test.true (value_stored _ c.requires _ c.numbers-first.ensures c.number_at.ensures c.value.ensures) c.loop-i.invariant

pub returns : goal.returns
unfolding entries
returns c = filled_all (omega arith) c.loop-i.invariant
