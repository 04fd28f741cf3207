use Rattle.numbers.specs.Words.{ℕ, ◌≤◌, ◌≡◌, true, all_below}
use Rattle.transform.specs.Transform.{at, fits16}
use Rattle.transform.specs.Pieces.{PlainTo}
use Rattle.transform.proofs.look.Given as goal

abbrev pub invariant-loop-k : goal.invariant-loop-k
invariant-loop-k l = (l.k ≤ 16) × (l.fits ≡ all_below l.k (λ (i : ℕ). fits16 (at l.c i))) × (l.plain ≡ true → PlainTo l.k l.c)
