use Rattle.macroblock.specs.MacroblockLaws.{level_none}
use Rattle.numbers.specs.Words.{rules}
use Rattle.macroblock.proofs.ending.level_of.Goals as goal

pub returns-then-segment-ge4 : goal.returns-then-segment-ge4
returns-then-segment-ge4 c = level_none c.args.frame c.args.small (search rules) (search rules) (search rules)

pub returns-then-small : goal.returns-then-small
returns-then-small c = rw c.if-small.true

pub returns : goal.returns
returns c = rw c.if-small.false
