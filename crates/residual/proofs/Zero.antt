-- What the code's test of a signed number against 0 says.
use Rattle.std.specs.Int.{Width}
use Rattle.numbers.specs.Words.{zero, suc, arith, ◌≡◌, refl, eqb, ne_eqb, ℤ, pos, negsuc, same_bits, SFits, of_z}
use Rattle.residual.specs.Residual.{zero_of}

pub zero_is : (w : Width) (z : ℤ) → SFits w z → SFits w (pos 0) → eqb (of_z w z) 0 ≡ zero_of z
zero_is w (pos zero) f g = refl
zero_is w (pos (suc n)) f g = ne_eqb (suc n) 0 (λ e. omega arith)
zero_is w (negsuc n) f g = ne_eqb (of_z w (negsuc n)) 0 (λ e. let h : negsuc n ≡ pos 0 = same_bits w f g e in cc)
