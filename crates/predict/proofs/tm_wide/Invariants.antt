use Rattle.numbers.specs.Words.{ℕ, get_or, Filled}
use Rattle.predict.specs.Predict.{tm_one}
use Rattle.predict.proofs.tm_wide.Given as goal

abbrev pub invariant-loop-k : goal.invariant-loop-k
invariant-loop-k l = Filled l.b 16 (λ (i : ℕ). tm_one l.l (get_or l.a i 0) l.corner) l.k
