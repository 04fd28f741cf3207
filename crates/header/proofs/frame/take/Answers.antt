use Rattle.numbers.specs.Words.{◌≡◌, Some, sym, ◌∙◌, ap, true, not-false, not-true, rules}
use Rattle.header.specs.Header.{header_of}
use Rattle.header.specs.HeaderLaws.{header_length, header_each}
use Rattle.header.specs.FrameLaws.{frame_good, frame_refused_lem}
use Rattle.header.proofs.frame.take.Goals as goal

fine : (c : goal.Else-not-header_fine) → header_of c.args.h.now ≡ true
fine c = sym c.header_fine.ensures ∙ not-false _ c.if-not-header_fine.false-raw

pub returns-then-not-header_fine : goal.returns-then-not-header_fine
returns-then-not-header_fine c = sym (frame_refused_lem _ (sym c.header_fine.ensures ∙ not-true _ c.if-not-header_fine.true-raw))

pub made-requires : goal.made-requires
made-requires c = record { h_len = header_length _ (fine c); each = header_each _ (fine c) }

pub returns : goal.returns
returns c = ap Some c.made.ensures ∙ sym (frame_good _ (fine c.before))
