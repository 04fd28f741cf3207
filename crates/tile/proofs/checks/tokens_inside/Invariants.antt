use Rattle.numbers.specs.Words.{ℕ, ◌<◌, ◌≡◌, true, get_or}
use Rattle.tile.specs.Tile.{no_span, inside_of}
use Rattle.tile.proofs.checks.tokens_inside.Given as goal

abbrev pub invariant-loop-i : goal.invariant-loop-i
invariant-loop-i l = (k : ℕ) → k < l.i → inside_of l.n (get_or l.tokens k no_span) ≡ true
