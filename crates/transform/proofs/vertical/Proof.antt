-- `vertical` meets its contract, column by column: the columns of coefficients that fit lie within what a line takes.
use Rattle.numbers.specs.Words.{ℕ, [], get_or, pos, negsuc, In, Each, Each2, rules}
use Rattle.transform.specs.TransformBounds.{numeral_in, near_zero, each2_wider, transpose_in}
use Rattle.transform.specs.TransformLaws.{vertical_lines}
use Rattle.transform.proofs.vertical.Statement.{statement}
use Rattle.transform.proofs.vertical.Tie as tie

-- what a line requires at column x
ask : (s : tie.After-transpose-t) (x : ℕ) → Each (negsuc 199999) (pos 200000) (get_or s.transpose-t.result x []) × In (pos 0) (pos 4) (pos 0)
ask s x =
    let e : Each2 (negsuc 199999) (pos 200000) s.transpose-t.result = rw s.transpose-t.ensures (transpose_in (near_zero 200000) (each2_wider s.requires tt)) in
    (record { at = e.at x }, numeral_in _ tt)

returns : tie.Need-returns
returns c =
    vertical_lines _ _ c.transpose-t.ensures c.line.ensures c.line-2.ensures
    c.line-3.ensures c.line-4.ensures c.transpose.ensures

pub vertical_spec : {M : Type 1} → statement M
vertical_spec = tie.close (tie.spec (λ c κs. search rules) (λ c. search rules) (λ c κs. ask c.before 0) (λ c. search rules) (λ c κs. ask c.before.before.before 1) (λ c. search rules) (λ c κs. ask c.before.before.before.before.before 2) (λ c. search rules) (λ c κs. ask c.before.before.before.before.before.before.before 3) (λ c κs. search rules) returns)
