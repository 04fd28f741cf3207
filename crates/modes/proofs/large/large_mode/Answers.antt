use Rattle.numbers.specs.Words.{refl, sym, ap, lit≤}
use Rattle.reader.specs.TreesLaws.{tree_fixed}
use Rattle.reader.specs.Reading.{to_read}
use Rattle.modes.specs.Modes.{large_mode_of}
use Rattle.modes.specs.ModesLaws.{byte_leaves_lem, large_within}
use Rattle.modes.proofs.Careful.{told_as}
use Rattle.modes.proofs.large.large_mode.Goals as goal

pub coded-requires : goal.coded-requires
coded-requires c = record { valid = c.requires; t_value = tree_fixed _ _ 0 (lit≤ tt) refl; t_value_2 = byte_leaves_lem _ refl }

pub returns-then-chroma : goal.returns-then-chroma
returns-then-chroma c = told_as to_read c.args.s.now c.args.r (ap large_mode_of (sym c.if-chroma.true)) (large_within c.args.chroma) c.coded.ensures

pub coded-requires-2 : goal.coded-requires-2
coded-requires-2 c = record { valid = c.requires; t_value = tree_fixed _ _ 0 (lit≤ tt) refl; t_value_2 = byte_leaves_lem _ refl }

pub returns : goal.returns
returns c = told_as to_read c.args.s.now c.args.r (ap large_mode_of (sym c.if-chroma.false)) (large_within c.args.chroma) c.coded-2.ensures
