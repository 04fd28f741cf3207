use Rattle.numbers.specs.Words.{◌*◌, ◌≤◌, ◌≡◌}
use Rattle.predict.specs.Predict.{sum_of_first}
use Rattle.predict.proofs.sum.Given as goal

abbrev pub invariant-loop-i : goal.invariant-loop-i
invariant-loop-i l = (l.i ≤ l.size) × (l.total ≡ sum_of_first l.l l.i) × (l.total ≤ 255 * l.i)
