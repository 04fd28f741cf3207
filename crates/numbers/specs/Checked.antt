-- The answer of a call that gives nothing but whether it did its work.
use Rattle.std.specs.Prelude.{ℕ, Result, Ok, Err}
use Rattle.numbers.specs.declared.Refused.{Refused}

-- done, or refused
abbrev pub Checked : Type 0
Checked = Result (Unit {0}) Refused

-- its number: 9 where an argument was out of range
abbrev pub checked_number_of : Checked → ℕ
checked_number_of (Ok u) = 0
checked_number_of (Err e) = 9
