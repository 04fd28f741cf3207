use Rattle.numbers.specs.Words.{arith}
use Rattle.recode.specs.Copies.{ask_copies}
use Rattle.recode.specs.TokenCopies.{rest_zero, rest_number}
use Rattle.recode.proofs.token.copy_rest.Goals as goal

pub returns-then-token-eq1 : goal.returns-then-token-eq1
returns-then-token-eq1 c = rest_zero c.if-token-eq1.true

pub returns : goal.returns
returns c = rest_number _ c.if-token-eq1.false c.copy_magnitude-m.ensures (ask_copies (omega arith) c.ask-a.ensures)
