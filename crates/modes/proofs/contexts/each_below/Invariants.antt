use Rattle.modes.specs.ContextsLaws.{Tested}
use Rattle.modes.proofs.contexts.each_below.Given as goal

abbrev pub invariant-loop-x : goal.invariant-loop-x
invariant-loop-x l = Tested l.limit l.l l.x-index l.fine
