use Rattle.coefficients.specs.BlockLaws.{magnitude_small}
use Rattle.recode.specs.TokenCopies.{magnitude_none}
use Rattle.recode.proofs.token.copy_magnitude.Goals as goal

pub returns-then-token-lt6 : goal.returns-then-token-lt6
returns-then-token-lt6 c = magnitude_none _ (magnitude_small _ c.if-token-lt6.true)
