use Rattle.numbers.specs.Words.{arith, sym, ◌∙◌}
use Rattle.survey.specs.TallyLaws.{smalling_start, smalling_room, smalling_next, smalling_end}
use Rattle.survey.proofs.tally.smalls.Goals as goal

pub loop-mode-init : goal.loop-mode-init
loop-mode-init c = smalling_start _ _ c.requires

pub count-requires : goal.count-requires
count-requires c = record { roomy = smalling_room _ _ _ _ c.loop-mode.invariant; rows_bound = omega arith }

pub loop-mode-preserved : goal.loop-mode-preserved
loop-mode-preserved c = smalling_next _ _ _ _ c.loop-mode.invariant c.count.ensures c.loop-mode-test.true

pub shape_of-counts : goal.shape_of-counts
shape_of-counts c = (smalling_room _ _ _ _ c.loop-mode.invariant).long ∙ sym c.requires.long

pub returns : goal.returns
returns c = smalling_end _ _ _ _ c.loop-mode.invariant c.loop-mode-test.false
