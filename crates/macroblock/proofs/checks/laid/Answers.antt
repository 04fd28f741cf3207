use Rattle.numbers.specs.Words.{arith}
use Rattle.macroblock.specs.DecodeLaws.{laid_column, laid_wide, laid_high, laid_rest}
use Rattle.macroblock.proofs.checks.laid.Goals as goal

pub returns-then-width-place : goal.returns-then-width-place
returns-then-width-place c = laid_column _ _ _ _ c.if-width-place.true

pub returns-then-width-gt16384 : goal.returns-then-width-gt16384
returns-then-width-gt16384 c = laid_wide _ _ _ _ c.if-width-gt16384.true

pub returns-then-rows-gt1024 : goal.returns-then-rows-gt1024
returns-then-rows-gt1024 c = laid_high _ _ _ _ c.if-rows-gt1024.true

pub returns : goal.returns
returns c = laid_rest _ _ _ _ (omega arith) (omega arith) (omega arith) c.area-luma.ensures c.area-chroma.ensures
