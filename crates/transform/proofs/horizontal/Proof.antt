-- `horizontal` meets its contract, row by row.
use Rattle.numbers.specs.Words.{ℕ, ◌≡◌, refl, ◌∙◌, ap, List, [], get_or, ◌∷≡◌, ℤ, pos, negsuc, In, Each, round, inside_read, Var, known, answered, w32, rules}
use Rattle.transform.specs.Transform.{line_of, rows_of, bias_of, horizontal_pass}
use Rattle.transform.specs.TransformBounds.{bias_in}
use Rattle.transform.proofs.horizontal.Statement.{statement}
use Rattle.transform.proofs.horizontal.Tie as tie

-- what `bias` answers
abbrev b : tie.After-bias-b → Var
b c = known (answered w32 c.bias-b.ensures (bias_in c.args.walsh) tt)

-- what a line requires at row y
ask : (c : tie.After-bias-b) (y : ℕ) → Each (negsuc 199999) (pos 200000) (get_or c.args.g y []) × In (pos 0) (pos 4) (round w32 c.bias-b.result)
ask c y = (record { at = c.requires.at y }, inside_read (b c).is)

-- what it answers there
row : (c : tie.After-bias-b) (y : ℕ) {q : List ℤ} → let r : List ℤ = get_or c.args.g y [] in q ≡ line_of c.args.walsh (round w32 c.bias-b.result) r → q ≡ line_of c.args.walsh (bias_of c.args.walsh) r
row c y e = e ∙ ap (λ (x : ℤ). line_of c.args.walsh x (get_or c.args.g y [])) (b c).is.eq

returns : tie.Need-returns
unfolding rows_of horizontal_pass
returns c = row c.before.before.before.before.before.before.before.before 0 c.line.ensures ∷≡ row c.before.before.before.before.before.before.before.before 1 c.line-2.ensures ∷≡ row c.before.before.before.before.before.before.before.before 2 c.line-3.ensures ∷≡ row c.before.before.before.before.before.before.before.before 3 c.line-4.ensures ∷≡ refl

pub horizontal_spec : {M : Type 1} → statement M
horizontal_spec = tie.close (tie.spec (λ c κs. search rules) (λ c. search rules) (λ c κs. ask c.before 0) (λ c. search rules) (λ c κs. ask c.before.before.before 1) (λ c. search rules) (λ c κs. ask c.before.before.before.before.before 2) (λ c. search rules) (λ c κs. ask c.before.before.before.before.before.before.before 3) returns)
