use Rattle.numbers.specs.Words.{sym, ap, Bool, false, replicate}
use Rattle.reader.specs.Reading.{done, to_read}
use Rattle.reader.specs.CountsLaws.{took_done, took_stops, took_ends}
use Rattle.modes.specs.Modes.{large_mode_of, luma}
use Rattle.modes.specs.ModesLaws.{luma_within}
use Rattle.modes.proofs.Careful.{told, told_as, took_equal, read_gave, read_missing}
use Rattle.modes.proofs.whole.luma.Goals as goal

pub returns-then-small : goal.returns-then-small
returns-then-small c = told_as to_read c.args.s.now c.args.r (ap (λ (b : Bool). luma b c.args.top.now c.args.left.now) (sym c.if-small.true)) (luma_within c.args.small c.args.top.now c.args.left.now) c.sixteen.ensures

pub returns-in_default : goal.returns-in_default
returns-in_default c = told to_read (luma_within c.args.small c.args.top.now c.args.left.now) (took_equal (ap (λ (b : Bool). luma b c.args.top.now c.args.left.now) (sym c.if-small.false)) (took_stops (λ m. done (replicate 16 m)) (large_mode_of false) (read_missing c.large_mode-c.ensures c.in_default.is)))

pub returns : goal.returns
returns c = told to_read (luma_within c.args.small c.args.top.now c.args.left.now) (took_equal (ap (λ (b : Bool). luma b c.args.top.now c.args.left.now) (sym c.if-small.false)) (took_ends (λ m. done (replicate 16 m)) (large_mode_of false) (read_gave c.large_mode-c.ensures c.in-Ok.is) (took_done _ _ _)))
