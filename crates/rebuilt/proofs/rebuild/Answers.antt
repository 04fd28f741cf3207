-- `rebuild` meets its contract: what both checks say where they have passed, and where one has not.
use Rattle.numbers.specs.Words.{sym, ◌∙◌, not-false, not-true}
use Rattle.macroblock.specs.DecodeLaws.{legible_out, laid_out_lem}
use Rattle.macroblock.specs.RebuiltLaws.{rebuild_passed, rebuild_illegible, rebuild_unlaid}
use Rattle.rebuilt.proofs.rebuild.Goals as goal

pub returns-then-not-legible : goal.returns-then-not-legible
returns-then-not-legible c = rebuild_illegible _ _ _ _ _ _ (sym c.legible.ensures.0 ∙ not-true _ c.if-not-legible.true-raw) c.nothing.ensures

pub returns-then-not-laid : goal.returns-then-not-laid
returns-then-not-laid c = rebuild_unlaid _ _ _ _ _ _ (sym c.laid.ensures ∙ not-true _ c.if-not-laid.true-raw) c.nothing-then-not-laid.ensures

pub from_modes-requires : goal.from_modes-requires
from_modes-requires c =
    let a = sym c.legible.ensures.0 ∙ not-false _ c.if-not-legible.false-raw in
    let b = sym c.laid.ensures ∙ not-false _ c.if-not-laid.false-raw in
    record { legible = legible_out _ _ _ _ c.legible.ensures.1.0 c.legible.ensures.1.1 a; laid = laid_out_lem _ _ b }

pub returns : goal.returns
returns c =
    let a = sym c.legible.ensures.0 ∙ not-false _ c.if-not-legible.false-raw in
    let b = sym c.laid.ensures ∙ not-false _ c.if-not-laid.false-raw in
    c.from_modes.ensures ∙ rebuild_passed _ _ _ _ _ _ a b
