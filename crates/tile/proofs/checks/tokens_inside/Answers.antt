use Rattle.numbers.specs.Words.{arith, sym, ◌∙◌, ap, inl, inr, ⊎_elim, lt_or, not-false, not-true, rules}
use borrow.Author.Count.{below_more}
use Rattle.tile.specs.Tile.{inside_of}
use Rattle.tile.specs.PartitionsLaws.{span_at_lem}
use Rattle.tile.specs.ChecksLaws.{tokens_out, tokens_all}
use Rattle.tile.proofs.checks.tokens_inside.Goals as goal

pub returns-then-not-inside : goal.returns-then-not-inside
returns-then-not-inside c = tokens_out _ _ c.loop-i.i (omega arith) (ap (inside_of _) (span_at_lem _ c.loop-i.i (omega arith)) ∙ sym c.inside.ensures ∙ not-true _ c.if-not-inside.true-raw)

pub loop-i-preserved : goal.loop-i-preserved
loop-i-preserved c = below_more _ _ c.loop-i.invariant (sym c.inside.ensures ∙ not-false _ c.if-not-inside.false-raw)

pub returns : goal.returns
returns c =
    tokens_all _ _ c.loop-i.i (λ k h. ap (inside_of _) (span_at_lem _ k (omega arith)) ∙ c.loop-i.invariant k h)
    (⊎_elim (λ e. inl (omega arith)) (λ e. inr (omega arith)) (lt_or c.args.tile.count 8))
