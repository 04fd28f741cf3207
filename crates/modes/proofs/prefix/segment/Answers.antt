use Rattle.numbers.specs.Words.{◌≤◌, arith, ◌≡◌, refl, not-false, not-true, length, rules}
use Rattle.reader.specs.TreesLaws.{tree_fixed}
use Rattle.modes.specs.ModesLaws.{byte_leaves_lem, segment_within}
use Rattle.reader.specs.CountsLaws.{took_done}
use Rattle.reader.specs.Reading.{to_read}
use Rattle.modes.proofs.Steps.{no_segment, some_segment}
use Rattle.modes.proofs.Careful.{told, told_as, took_equal}
use Rattle.modes.proofs.prefix.segment.Goals as goal

pub returns-then-not-a : goal.returns-then-not-a
returns-then-not-a c = told to_read (segment_within c.args.a c.requires.probabilities) (took_equal (no_segment c.args.a (not-true _ c.if-not-a.true)) (took_done 0 c.args.s.now c.args.r))

pub coded-requires : goal.coded-requires
coded-requires c =
    let l : length c.args.a.map_probabilities ≡ 3 = search rules in
    let k : 3 ≤ length c.args.a.map_probabilities = omega (arith, l) in
    record { valid = c.requires.valid; t_value = tree_fixed _ _ 0 k refl; t_value_2 = byte_leaves_lem _ refl }

pub returns : goal.returns
returns c = told_as to_read c.args.s.now c.args.r (some_segment c.args.a (not-false _ c.if-not-a.false)) (segment_within c.args.a c.requires.probabilities) c.coded.ensures
