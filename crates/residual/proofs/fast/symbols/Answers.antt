use Rattle.numbers.specs.Words.{arith, refl}
use Rattle.residual.specs.FastLaws.{token_symbols, symbols_most}
use Rattle.residual.proofs.fast.symbols.Goals as goal

pub overflow_cast-result-2 : goal.overflow_cast-result-2
unfolding token_symbols
overflow_cast-result-2 c = record { fits = omega (arith, symbols_most _ c.requires) }

pub returns : goal.returns
unfolding token_symbols
returns c = (refl, symbols_most _ c.requires)
