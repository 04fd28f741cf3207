use Rattle.numbers.specs.Words.{arith, sym, ◌∙◌, ap}
use Rattle.reader.specs.Reading.{to_read}
use Rattle.reader.specs.ReadingLaws.{from_read, symboled}
use Rattle.reader.specs.CountsLaws.{symbol_got, symbol_missing}
use Rattle.modes.proofs.prefix.ask.Goals as goal

pub returns-in_default : goal.returns-in_default
returns-in_default c =
    let e = symboled _ _ _ c.requires c.symbol.ensures ∙ ap from_read c.in_default.is in
    (sym (ap to_read e), (sym (symbol_missing _ _ _ e), omega arith))

pub returns : goal.returns
returns c =
    let e = symboled _ _ _ c.requires c.symbol.ensures ∙ ap from_read c.in-Ok.is in
    (sym (ap to_read e), (sym (symbol_got _ _ _ e), omega arith))
