use Rattle.writer.specs.RoomLaws.{shifted_loud, shifted_quiet}
use Rattle.writer.proofs.shifted.Goals as goal

pub returns-then-w-k : goal.returns-then-w-k
returns-then-w-k c = shifted_loud c.args.w _ c.args.range c.args.bottom c.doublings-k.ensures.0 c.moved-high.ensures.0 c.grown.ensures c.if-w-k.true c.loud.ensures

pub returns : goal.returns
returns c = shifted_quiet c.args.w _ c.args.range c.args.bottom c.doublings-k.ensures.0 c.moved-high.ensures.0 c.grown-2.ensures c.if-w-k.false
