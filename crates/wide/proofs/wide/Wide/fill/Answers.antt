use Rattle.wide.specs.WideLaws.{fill_full, fill_more}
use Rattle.wide.proofs.wide.Wide.fill.Goals as goal

pub returns-then-count-ge32 : goal.returns-then-count-ge32
returns-then-count-ge32 c = fill_full c.args.s.now c.args.self c.if-count-ge32.true

pub returns : goal.returns
returns c = fill_more c.args.s.now c.args.self c.if-count-ge32.false c.wrapping_add_usize.ensures.value c.four.ensures.0 c.wrapping_add_u64.ensures.value
