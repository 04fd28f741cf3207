-- `decode` meets its contract: what both checks say where they have passed, and where one has not.
use Rattle.numbers.specs.Words.{sym, ◌∙◌, not-false, not-true}
use Rattle.macroblock.specs.DecodeLaws.{ready_out, laid_out_lem, decode_passed, decode_unready, decode_unlaid}
use Rattle.macroblock.specs.CountsLaws.{reads_passed, reads_unready, reads_unlaid}
use Rattle.whole.proofs.decode.Goals as goal

pub returns-then-not-ready : goal.returns-then-not-ready
returns-then-not-ready c =
    let e = sym c.ready.ensures.0 ∙ not-true _ c.if-not-ready.true-raw in
    (decode_unready _ _ _ _ _ _ _ _ e c.stopped.ensures.0, reads_unready _ _ _ _ _ _ _ _ e c.stopped.ensures.1)

pub returns-then-not-laid : goal.returns-then-not-laid
returns-then-not-laid c =
    let e = sym c.laid.ensures ∙ not-true _ c.if-not-laid.true-raw in
    (decode_unlaid _ _ _ _ _ _ _ _ e c.stopped-then-not-laid.ensures.0, reads_unlaid _ _ _ _ _ _ _ _ e c.stopped-then-not-laid.ensures.1)

pub step-requires : goal.step-requires
step-requires c =
    let a = sym c.ready.ensures.0 ∙ not-false _ c.if-not-ready.false-raw in
    let b = sym c.laid.ensures ∙ not-false _ c.if-not-laid.false-raw in
    record { ready = ready_out _ _ _ _ _ _ c.ready.ensures.1.0 c.ready.ensures.1.1 a; laid = laid_out_lem _ _ b }

pub returns : goal.returns
returns c =
    let a = sym c.ready.ensures.0 ∙ not-false _ c.if-not-ready.false-raw in
    let b = sym c.laid.ensures ∙ not-false _ c.if-not-laid.false-raw in
    (c.step.ensures.0 ∙ decode_passed _ _ _ _ _ _ _ _ a b, c.step.ensures.1 ∙ reads_passed _ _ _ _ _ _ _ _ a b)
