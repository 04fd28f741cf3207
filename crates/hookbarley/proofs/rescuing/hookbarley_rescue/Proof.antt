use Rattle.hookbarley.specs.CallsLaws.{rescue_called_refused, rescue_called_found}
use Rattle.numbers.specs.Words.{rules}
use Rattle.hookbarley.proofs.rescuing.hookbarley_rescue.Statement.{statement}
use Rattle.hookbarley.proofs.rescuing.hookbarley_rescue.Tie as tie

abbrev called : tie.After-tell_rescue → tie.After-rescue-answer
called c = c.before.before.before.before.before.before.before.before.before.before.before.before.before.before.before.before

returns : tie.Need-returns-then-tile-ne-TILE_NUMBERS
returns c = rescue_called_refused _ _ _ _ _ c.if-tile-ne-TILE_NUMBERS.true

returns-2 : tie.Need-returns
returns-2 c = rescue_called_found _ _ _ _ _ (called c).if-tile-ne-TILE_NUMBERS.false (called c).tile_of.ensures (called c).rescue-answer.ensures c.tell_rescue.ensures

pub hookbarley_rescue_spec : {M : Type 1} → statement M
hookbarley_rescue_spec = tie.close (tie.spec returns (λ c κs. search rules) (λ c κs. search rules) (λ c κs. search rules) (λ c. (called c).rescue-answer.auto.y) (λ c. (called c).rescue-answer.auto.u) (λ c. (called c).rescue-answer.auto.v) (λ c. (called c).rescue-answer.auto.columns) (λ c. (called c).rescue-answer.auto.modes) (λ c. (called c).rescue-answer.auto.strengths) (λ c. (called c).rescue-answer.auto.marks) returns-2)
