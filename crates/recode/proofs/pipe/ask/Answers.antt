use Rattle.recode.specs.Copies.{ask_is}
use Rattle.recode.proofs.pipe.ask.Goals as goal

pub returns : goal.returns
returns c = ask_is _ c.args.p _ c.args.prob c.fill-full.ensures c.bit-b.ensures c.write-written.ensures
