-- `read_number` meets its contract: a token 2..5 is its number and one; each arm is its category, and what is left is the last.
use Rattle.numbers.specs.Words.{arith}
use Rattle.coefficients.specs.Block.{categories, bases, magnitude, magnitude_of}
use Rattle.coefficients.specs.BlockSteps.{magnitude_few, magnitude_at}
use Rattle.coefficients.proofs.BlockAnswers.{last}
use Rattle.coefficients.proofs.block.read_number.Goals as goal

pub returns-then-token-lt6 : goal.returns-then-token-lt6
returns-then-token-lt6 c = rw c.from.ensures (magnitude_few _ _ _ (omega arith))

pub returns-in-6 : goal.returns-in-6
unfolding magnitude_of magnitude categories bases
returns-in-6 c = magnitude_at _ _ c.in-6.is c.extended.ensures

pub returns-in-7 : goal.returns-in-7
unfolding magnitude_of magnitude categories bases
returns-in-7 c = magnitude_at _ _ c.in-7.is c.extended-in-7.ensures

pub returns-in-8 : goal.returns-in-8
unfolding magnitude_of magnitude categories bases
returns-in-8 c = magnitude_at _ _ c.in-8.is c.extended-in-8.ensures

pub returns-in-9 : goal.returns-in-9
unfolding magnitude_of magnitude categories bases
returns-in-9 c = magnitude_at _ _ c.in-9.is c.extended-in-9.ensures

pub returns-in-10 : goal.returns-in-10
unfolding magnitude_of magnitude categories bases
returns-in-10 c = magnitude_at _ _ c.in-10.is c.extended-in-10.ensures

pub returns-in_default : goal.returns-in_default
unfolding magnitude_of magnitude categories bases
returns-in_default c = magnitude_at _ _ (last c.if-token-lt6.false c.requires.le_token.1 c.in_default.in_default-own.rest) c.extended-in_default.ensures
