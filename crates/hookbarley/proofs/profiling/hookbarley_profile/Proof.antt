use Rattle.hookbarley.specs.CallsLaws.{profile_called_refused, profile_called_found}
use Rattle.numbers.specs.Words.{rules}
use Rattle.hookbarley.proofs.profiling.hookbarley_profile.Statement.{statement}
use Rattle.hookbarley.proofs.profiling.hookbarley_profile.Tie as tie

abbrev called : tie.After-tell_profile → tie.After-profile-answer
called c = c.before.before.before.before.before.before.before.before.before.before.before.before.before.before.before

returns : tie.Need-returns-then-tile-ne-TILE_NUMBERS
returns c = profile_called_refused _ _ _ _ c.if-tile-ne-TILE_NUMBERS.true

returns-2 : tie.Need-returns
returns-2 c = profile_called_found _ _ _ _ (called c).if-tile-ne-TILE_NUMBERS.false (called c).tile_of.ensures (called c).profile-answer.ensures c.tell_profile.ensures

pub hookbarley_profile_spec : {M : Type 1} → statement M
hookbarley_profile_spec = tie.close (tie.spec returns (λ c κs. search rules) (λ c κs. search rules) (λ c κs. search rules) (λ c. (called c).profile-answer.auto.y) (λ c. (called c).profile-answer.auto.u) (λ c. (called c).profile-answer.auto.v) (λ c. (called c).profile-answer.auto.columns) (λ c. (called c).profile-answer.auto.modes) (λ c. (called c).profile-answer.auto.strengths) returns-2)
