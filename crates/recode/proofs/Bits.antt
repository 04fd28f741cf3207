-- A flag as the kit makes it a number.
use Rattle.numbers.specs.Words.{arith, ◌<◌, ◌≡◌, refl, Bool, true, false, bit_of, bool_byte}

pub byte_bit : (b : Bool) → bool_byte b ≡ bit_of b
byte_bit true = refl
byte_bit false = refl

pub byte_small : (b : Bool) → bool_byte b < 2
byte_small true = omega arith
byte_small false = omega arith
