use Rattle.numbers.specs.Words.{false, w8, Fits, rules}
use Rattle.wide.specs.WideRuns.{reads_as, reads_done}
use Rattle.modes.proofs.Steps.{reads_symbol, no_skip, some_skip}
use Rattle.modes.proofs.quick.skip.Goals as goal

pub returns-then-a : goal.returns-then-a
returns-then-a c s y =
    let f : Fits w8 c.args.a.skip_probability = search rules in
    reads_as s 8 0 (some_skip c.args.a c.if-a.true) (reads_symbol s c.args.a.skip_probability c.args.w y f.fits c.bit.ensures)

pub returns : goal.returns
returns c s y = reads_as s 8 0 (no_skip c.args.a c.if-a.false) (reads_done s 8 0 false)
