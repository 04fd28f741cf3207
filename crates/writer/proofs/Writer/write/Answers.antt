use Rattle.numbers.specs.Words.{arith, refl}
use Rattle.wide.specs.WideLaws.{wrapped32}
use Rattle.writer.specs.RoomLaws.{write_is}
use Rattle.writer.proofs.Writer.write.Goals as goal

pub returns-then-bit : goal.returns-then-bit
returns-then-bit c = write_is c.args.self _ c.args.prob c.if-bit.true c.split-x.ensures.0 (wrapped32 _ _ _ (omega arith) (omega arith) c.wrapping_sub_u32-range.ensures.value) c.wrapping_add_u32-bottom.ensures.value c.shifted.ensures

pub returns : goal.returns
returns c = write_is c.args.self _ c.args.prob c.if-bit.false c.split-x.ensures.0 refl refl c.shifted-2.ensures
