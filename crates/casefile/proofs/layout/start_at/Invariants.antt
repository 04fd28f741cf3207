use Rattle.numbers.specs.Words.{◌+◌, ◌*◌, ◌≤◌, ◌≡◌}
use Rattle.casefile.specs.CaseFile.{start_at}
use Rattle.casefile.proofs.layout.start_at.Given as goal

abbrev pub invariant-loop-j : goal.invariant-loop-j
invariant-loop-j l = (l.at ≡ start_at l.file l.j) × (l.at ≤ 3226 + l.j * 4294967296)
