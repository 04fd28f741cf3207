use Rattle.frame.proofs.Turns.{Placing}
use Rattle.frame.proofs.places.places.Given as goal

abbrev pub invariant-loop-i : goal.invariant-loop-i
invariant-loop-i l = Placing l.b l.table l.count l.tokens l.at l.i
