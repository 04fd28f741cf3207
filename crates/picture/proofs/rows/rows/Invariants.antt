use Rattle.lent.specs.Memory.{memory_of, packed}
use Rattle.picture.specs.Picture.{cut_out}
use Rattle.picture.specs.Halt.{state_of}
use Rattle.picture.proofs.Turns.{Going, total_of}
use Rattle.picture.proofs.rows.rows.Given as goal

abbrev pub invariant-loop-k : goal.invariant-loop-k
invariant-loop-k l =
    Going (cut_out packed l.bytes l.tile l.frame l.table)
    (total_of (cut_out packed l.bytes l.tile l.frame l.table) (state_of l.initial.r l.initial.readers l.initial.left (memory_of l.initial.y l.initial.u l.initial.v l.initial.columns l.initial.modes l.initial.strengths)))
    l.k (state_of l.r l.readers l.left (memory_of l.y l.u l.v l.columns l.modes l.strengths)) l.reads
