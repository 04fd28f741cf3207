-- For a caller's `let .. else`: every answer of a macroblock but Ok is a refusal.
use Rattle.numbers.specs.Words.{arith, ◌≡◌, refl, Ok, Err}
use Rattle.macroblock.specs.declared.arguments.Readers.{Readers}
use Rattle.macroblock.specs.declared.ending.Unfinished.TheVariants as F
use Rattle.macroblock.specs.Macroblock.{Finish, finish_number_of}

pub not_done : (a : Finish) → ((r : Readers) → a ≡ Ok r → ⊥) → finish_number_of a ≡ 0 → ⊥
not_done (Ok r) h z = h r refl
not_done (Err F.NoModes) h z = omega arith
not_done (Err F.NoTokens) h z = omega arith
not_done (Err F.Refused) h z = omega arith
