use Rattle.numbers.specs.Words.{not-false, not-true}
use Rattle.frame.specs.Header.{no_probs_of, map_probs_of}
use Rattle.recode_frame.specs.HeaderCopies.{copied_when, copied_not, map_copied}
use Rattle.recode_frame.proofs.before.copy_map.Goals as goal

pub returns-then-not-on : goal.returns-then-not-on
returns-then-not-on c = copied_not c.args.on no_probs_of map_probs_of (not-true _ c.if-not-on.true-raw)

pub returns : goal.returns
returns c = copied_when c.args.on no_probs_of map_probs_of (not-false _ c.if-not-on.false-raw) (map_copied c.copy_byte-a.ensures c.copy_byte-b.ensures c.copy_byte.ensures)
