use Rattle.writer.specs.RoomLaws.{byte_is}
use Rattle.writer.proofs.byte_out.Goals as goal

pub returns : goal.returns
returns c = byte_is _ c.args.at c.args.due c.carry.ensures c.put.ensures
