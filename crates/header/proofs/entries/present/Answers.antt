use Rattle.numbers.specs.Words.{zero, suc, arith, ◌≡◌, refl, not, eqb, ne_eqb, ℤ, pos, negsuc, w32, SFits, of_z}
use Rattle.header.specs.Header.{present_of}
use Rattle.header.proofs.entries.present.Goals as goal

present_is : (z : ℤ) → SFits w32 z → not (eqb (of_z w32 z) 0) ≡ present_of z
present_is (pos zero) f = refl
present_is (pos (suc n)) f = rw (ne_eqb (suc n) 0 (λ e. omega arith))
present_is (negsuc n) f = rw (ne_eqb (of_z w32 (negsuc n)) 0 (λ e. omega (arith, f.sfits)))

pub returns : goal.returns
returns c = present_is c.args.entry c.ranges.entry
