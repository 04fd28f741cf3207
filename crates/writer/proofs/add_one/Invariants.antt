use Rattle.numbers.specs.Words.{◌≡◌}
use Rattle.writer.specs.Encoder.{add_one_of}
use Rattle.writer.proofs.add_one.Given as goal

abbrev pub invariant-loop-i : goal.invariant-loop-i
invariant-loop-i l = add_one_of l.i l.out ≡ add_one_of l.n l.initial.out
