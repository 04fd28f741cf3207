use Rattle.numbers.specs.Words.{◌≡◌, sym, ◌∙◌, ap, Err, get_or, rules}
use Rattle.reader.specs.Reading.{given, symbol, run}
use Rattle.reader.specs.ReadingLaws.{Valid, symboled, symbol_told, from_read, with_bit, run_valid, within_symbol}
use Rattle.try_counted.specs.Segment.{segment_missing, segment_high, segment_low}
use Rattle.try_counted.proofs.chain.Goals as goal
use Rattle.try_counted.proofs.chain.Goals.{In_ok-high}

-- what the first symbol says of the grammar, and that the reader after it is in range
high_is : (c : In_ok-high) → (run (symbol (get_or c.args.probs.now 0 0)) c.args.s.now c.args.r ≡ given c.in_ok-high.high c.in_ok-high.next)
high_is c = symboled _ _ _ c.requires.valid c.symbol.ensures ∙ ap from_read c.in_ok-high.was

high_valid : (c : In_ok-high) → Valid c.args.s.now c.in_ok-high.next
high_valid c = (run_valid (within_symbol (c.type_inv.probs 0).fits) (λ i. (c.type_inv.s i).fits) c.requires.valid (high_is c)).valid

pub returns-in_err-high : goal.returns-in_err-high
returns-in_err-high c =
    let h : c.from_residual.result ≡ Err c.in_err-high.field-0.0 = search rules in
    h ∙ segment_missing _ _ _ (sym c.in_err-high.was ∙ symbol_told _ _ _ c.requires.valid c.symbol.ensures)

pub last-requires : goal.last-requires
last-requires c = high_valid (goal.at.last-requires c).In_ok-high

pub last-requires-else-high : goal.last-requires-else-high
last-requires-else-high c = high_valid (goal.at.last-requires-else-high c).In_ok-high

pub returns-then-high : goal.returns-then-high
returns-then-high c = c.last.ensures ∙ segment_high _ _ _ (with_bit (high_is (goal.at.returns-then-high c).In_ok-high) c.if-high.true)

pub returns-else-high : goal.returns-else-high
returns-else-high c = c.last-else-high.ensures ∙ segment_low _ _ _ (with_bit (high_is (goal.at.returns-else-high c).In_ok-high) c.if-high.false)
