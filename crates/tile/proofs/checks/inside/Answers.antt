use Rattle.numbers.specs.Words.{rules}
use Rattle.tile.specs.ChecksLaws.{inside_past, inside_rest}
use Rattle.tile.proofs.checks.inside.Goals as goal

pub returns-then-n-span : goal.returns-then-n-span
returns-then-n-span c = inside_past _ _ c.if-n-span.true

pub returns : goal.returns
returns c = inside_rest _ _ (search rules)
