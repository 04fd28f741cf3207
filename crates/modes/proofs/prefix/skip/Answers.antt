use Rattle.numbers.specs.Words.{false}
use Rattle.reader.specs.Reading.{to_read}
use Rattle.modes.specs.ModesLaws.{skip_within}
use Rattle.reader.specs.CountsLaws.{took_done}
use Rattle.modes.proofs.Steps.{no_skip, some_skip}
use Rattle.modes.proofs.Careful.{told, told_as, took_equal}
use Rattle.modes.proofs.prefix.skip.Goals as goal

pub returns-then-a : goal.returns-then-a
returns-then-a c = told_as to_read c.args.s.now c.args.r (some_skip c.args.a c.if-a.true) (skip_within c.args.a c.requires.probabilities) c.ask.ensures

pub returns : goal.returns
returns c = told to_read (skip_within c.args.a c.requires.probabilities) (took_equal (no_skip c.args.a c.if-a.false) (took_done false c.args.s.now c.args.r))
