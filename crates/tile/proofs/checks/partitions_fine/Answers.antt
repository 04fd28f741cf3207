use Rattle.numbers.specs.Words.{sym, ◌∙◌, not-false, not-true}
use Rattle.tile.specs.ChecksLaws.{partitions_first, partitions_tokens, partitions_reader}
use Rattle.tile.proofs.checks.partitions_fine.Goals as goal

pub returns-then-not-inside : goal.returns-then-not-inside
returns-then-not-inside c = partitions_first _ _ (sym c.inside.ensures ∙ not-true _ c.if-not-inside.true-raw)

pub returns-then-not-tokens_inside : goal.returns-then-not-tokens_inside
returns-then-not-tokens_inside c = partitions_tokens _ _ (sym c.tokens_inside.ensures ∙ not-true _ c.if-not-tokens_inside.true-raw)

pub returns : goal.returns
returns c =
    rw (c.valid.ensures, c.part.ensures)
    (partitions_reader _ _ (sym c.inside.ensures ∙ not-false _ c.if-not-inside.false-raw) (sym c.tokens_inside.ensures ∙ not-false _ c.if-not-tokens_inside.false-raw))
