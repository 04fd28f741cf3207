-- The laws of what C is told, of the answers as the code finds them.
use Rattle.std.specs.Prelude.{◌≡◌}
use Rattle.numbers.specs.Words.{ℕ}
use Rattle.rescue.specs.Rescue.{Rescued, rescue_number_of, saved_count_of}
use Rattle.profile.specs.Profile.{Profiled, profile_number_of, profile_rule_of, profile_block_of}
use Rattle.told.specs.Told.{rescue_told, rescue_told_of, profile_told, profile_told_of}

pub rescue_told_lem : (a : Rescued) {n k : ℕ} → n ≡ rescue_number_of a → k ≡ saved_count_of a → rescue_told n k ≡ rescue_told_of a
rescue_told_lem a e f = λ i. rescue_told (e i) (f i)

pub profile_told_lem : (a : Profiled) {n r k : ℕ} → n ≡ profile_number_of a → r ≡ profile_rule_of a → k ≡ profile_block_of a → profile_told n r k ≡ profile_told_of a
profile_told_lem a e f g = λ i. profile_told (e i) (f i) (g i)
