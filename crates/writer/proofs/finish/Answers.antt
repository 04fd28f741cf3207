use Rattle.numbers.specs.Words.{refl}
use Rattle.writer.specs.RoomLaws.{flush_is}
use Rattle.writer.proofs.finish.Goals as goal

pub returns : goal.returns
returns c = (refl, flush_is c.args.w c.args.out.now c.power.ensures c.carry.ensures c.lifted-v.ensures c.put.ensures c.put-2.ensures c.put-3.ensures c.put-4.ensures)
