use Rattle.numbers.specs.Words.{◌-◌}
use Rattle.tile.specs.Tile.{blocks_of}
use Rattle.lent.specs.Memory.{memory_of}
use Rattle.choices.specs.Choices.{call_of}
use Rattle.picture.specs.Picture.{pictured_of}
use Rattle.picture.specs.Halt.{state_of}
use Rattle.rescue.specs.Rescue.{rest_of}
use Rattle.rescue.proofs.Turns.{Going}
use Rattle.rescue.proofs.rest.rest.Given as goal

abbrev pub invariant-loop-k : goal.invariant-loop-k
invariant-loop-k l =
    let P = pictured_of (call_of l.bytes l.tile l.header) in
    let S = state_of l.initial.r l.initial.readers l.initial.left (memory_of l.initial.y l.initial.u l.initial.v l.initial.columns l.initial.modes l.initial.strengths) in
    Going P (rest_of (blocks_of l.tile.width l.tile.height - l.from) P l.from S) l.k (state_of l.r l.readers l.left (memory_of l.y l.u l.v l.columns l.modes l.strengths))
