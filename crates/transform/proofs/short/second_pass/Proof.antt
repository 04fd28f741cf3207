-- `second_pass` meets its contract, row by row.
use Rattle.numbers.specs.Words.{ℕ, refl, [], get_or, ◌∷≡◌, pos, negsuc, In, Each, rules}
use Rattle.transform.specs.Transform.{rows_of, horizontal_pass}
use Rattle.transform.specs.TransformBounds.{numeral_in}
use Rattle.transform.proofs.short.second_pass.Statement.{statement}
use Rattle.transform.proofs.short.second_pass.Tie as tie

-- what a line requires at row y
ask : (c : tie.Start) (y : ℕ) → Each (negsuc 7999) (pos 8000) (get_or c.args.g y []) × In (pos 0) (pos 4) (pos 4)
ask c y = (record { at = c.requires.at y }, numeral_in _ tt)

returns : tie.Need-returns
unfolding rows_of horizontal_pass
returns c = c.short_line.ensures ∷≡ c.short_line-2.ensures ∷≡ c.short_line-3.ensures ∷≡ c.short_line-4.ensures ∷≡ refl

pub second_pass_spec : {M : Type 1} → statement M
second_pass_spec = tie.close (tie.spec (λ c. search rules) (λ c κs. ask c.before 0) (λ c. search rules) (λ c κs. ask c.before.before.before 1) (λ c. search rules) (λ c κs. ask c.before.before.before.before.before 2) (λ c. search rules) (λ c κs. ask c.before.before.before.before.before.before.before 3) returns)
