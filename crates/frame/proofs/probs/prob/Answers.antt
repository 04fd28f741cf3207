use Rattle.numbers.specs.Words.{false}
use Rattle.frame.specs.Header.{prob}
use Rattle.reader.specs.ReadsLaws.{reads_then, reads_done}
use Rattle.frame.proofs.Leaves.{symbol_missing, symbol_got}
use Rattle.frame.proofs.probs.prob.Goals as goal

pub returns-in_default : goal.returns-in_default
unfolding prob
returns-in_default c = rw c.nowhere.ensures (reads_then _ (symbol_missing _ _ _ c.symbol.ensures false c.in_default.is) (reads_done _ _ _))

pub returns-then-given : goal.returns-then-given
unfolding prob
returns-then-given c = reads_then _ (symbol_got _ _ _ c.symbol.ensures (λ i. (c.type_inv.s i).fits) c.ranges.p.fits c.in-Ok.is c.if-given.true) c.literal.ensures

pub returns : goal.returns
unfolding prob
returns c = reads_then _ (symbol_got _ _ _ c.symbol.ensures (λ i. (c.type_inv.s i).fits) c.ranges.p.fits c.in-Ok.is c.if-given.false) (reads_done _ _ _)
