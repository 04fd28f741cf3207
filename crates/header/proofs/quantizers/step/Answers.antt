use Rattle.numbers.specs.Words.{arith, lit<, flat_at_lem}
use Rattle.header.proofs.quantizers.step.Goals as goal

pub offset_bounds-rows-i : goal.offset_bounds-rows-i
offset_bounds-rows-i c = omega (arith, c.requires.0)

pub offset_bounds-rows-i-2 : goal.offset_bounds-rows-i-2
offset_bounds-rows-i-2 c = omega (arith, c.requires.0)

pub bounds-rows-i : goal.bounds-rows-i
bounds-rows-i c = omega (arith, c.requires.0)

pub bounds-rows-i-2 : goal.bounds-rows-i-2
bounds-rows-i-2 c = omega (arith, c.requires.0)

pub returns : goal.returns
returns c = flat_at_lem 8 c.args.rows (lit< tt) c.requires.1 c.args.i
