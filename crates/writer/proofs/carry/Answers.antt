use Rattle.numbers.specs.Words.{⊎_elim}
use Rattle.writer.specs.RoomLaws.{add_one_past}
use Rattle.writer.proofs.carry.Goals as goal

pub returns-then-n-out : goal.returns-then-n-out
returns-then-n-out c = rw c.if-on.true c.add_one.ensures

pub returns-else-on : goal.returns-else-on
returns-else-on c = ⊎_elim (λ a. rw a.0 (add_one_past _ _ a.1)) (λ a. rw a) c.else-on.either
