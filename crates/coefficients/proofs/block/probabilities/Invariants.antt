use Rattle.numbers.specs.Words.{◌+◌, Filled}
use Rattle.header.specs.Header.{coefficient_probability, entry, probability_of}
use Rattle.coefficients.proofs.block.probabilities.Given as goal

abbrev pub invariant-loop-i : goal.invariant-loop-i
invariant-loop-i l = Filled l.bytes 1056 (λ k. probability_of (entry l.h (coefficient_probability + k))) l.i
