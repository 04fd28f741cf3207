use Rattle.numbers.specs.Words.{arith, refl}
use Rattle.wide.specs.WideLaws.{wrapped32}
use Rattle.writer.specs.RoomLaws.{above_fits, rest_is, loud_is}
use Rattle.writer.proofs.loud.Goals as goal

pub overflow_sub-rest : goal.overflow_sub-rest
overflow_sub-rest c = above_fits _ _ c.requires.2

pub returns : goal.returns
returns c = loud_is c.args.w _ c.args.range c.args.high c.args.k refl c.wrapping_add_usize.ensures.value (rest_is _ _ c.requires.2) (wrapped32 _ _ _ (omega arith) (omega (arith, c.requires)) c.wrapping_sub_u32.ensures.value) c.byte_out.ensures
