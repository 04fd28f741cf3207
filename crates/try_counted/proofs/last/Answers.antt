use Rattle.numbers.specs.Words.{◌≡◌, sym, ◌∙◌, ap, Err, rules}
use Rattle.reader.specs.ReadingLaws.{symboled, symbol_told, from_read, with_bit}
use Rattle.try_counted.specs.Segment.{last_of, last_unread}
use Rattle.reader.specs.Reading.{given, symbol, run}
use Rattle.try_counted.proofs.last.Goals as goal
use Rattle.try_counted.proofs.last.Goals.{In_ok-bit}

-- what the symbol that was read says of the grammar
bit_is : (c : In_ok-bit) → (run (symbol c.args.prob) c.args.s.now c.args.r ≡ given c.in_ok-bit.bit c.in_ok-bit.next)
bit_is c = symboled _ _ _ c.requires c.symbol.ensures ∙ ap from_read c.in_ok-bit.was

pub returns-in_err-bit : goal.returns-in_err-bit
returns-in_err-bit c =
    let h : c.from_residual.result ≡ Err c.in_err-bit.field-0.0 = search rules in
    h ∙ last_unread _ _ _ (sym c.in_err-bit.was ∙ symbol_told _ _ _ c.requires c.symbol.ensures)

pub returns-then-bit : goal.returns-then-bit
returns-then-bit c = sym (ap (last_of _ _) (with_bit (bit_is (goal.at.returns-then-bit c).In_ok-bit) c.if-bit.true))

pub returns-else-bit : goal.returns-else-bit
returns-else-bit c = sym (ap (last_of _ _) (with_bit (bit_is (goal.at.returns-else-bit c).In_ok-bit) c.if-bit.false))
