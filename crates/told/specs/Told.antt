-- The answers of the calls as the numbers that C is told.
use Rattle.numbers.specs.Words.{ℕ}
use Rattle.macroblock.specs.declared.arguments.SymbolCounts.{SymbolCounts}
use Rattle.rescue.specs.Rescue.{Rescued, rescue_number_of, saved_count_of}
use Rattle.profile.specs.Profile.{Profiled, profile_number_of, profile_rule_of, profile_block_of}

-- ---- the macroblocks finished, and the symbols read (M-103)
pub record CountsTold : Type 0 where
  pub finished : ℕ
  pub first : ℕ
  pub tokens : ℕ

-- the three put together
abbrev pub counts_told : (finished first tokens : ℕ) → CountsTold
counts_told finished first tokens = record { finished = finished; first = first; tokens = tokens }

-- of so many macroblocks and symbols
abbrev pub counts_of : (k : ℕ) → SymbolCounts → CountsTold
counts_of k reads = counts_told k reads.first reads.tokens

-- ---- a rescue's answer (M-108): its number, and the macroblocks marked 0 or 1
pub record RescueTold : Type 0 where
  pub number : ℕ
  pub kept : ℕ

-- the two put together
abbrev pub rescue_told : (number kept : ℕ) → RescueTold
rescue_told number kept = record { number = number; kept = kept }

-- of an answer
abbrev pub rescue_told_of : Rescued → RescueTold
rescue_told_of a = rescue_told (rescue_number_of a) (saved_count_of a)

-- ---- what the profile answers (M-111): its number, the rule that fails, the macroblock that the last rule names
pub record ProfileTold : Type 0 where
  pub number : ℕ
  pub rule : ℕ
  pub macroblock : ℕ

-- the three put together
abbrev pub profile_told : (number rule macroblock : ℕ) → ProfileTold
profile_told number rule macroblock = record { number = number; rule = rule; macroblock = macroblock }

-- of an answer
abbrev pub profile_told_of : Profiled → ProfileTold
profile_told_of a = profile_told (profile_number_of a) (profile_rule_of a) (profile_block_of a)
