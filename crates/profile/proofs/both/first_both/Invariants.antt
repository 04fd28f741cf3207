use Rattle.profile.specs.ProfileLaws.{Looking}
use Rattle.profile.proofs.both.first_both.Given as goal

abbrev pub invariant-loop-k : goal.invariant-loop-k
invariant-loop-k l = Looking l.modes l.blocks l.k
