-- `first_pass` meets its contract, column by column.
use Rattle.numbers.specs.Words.{ℕ, false, [], get_or, pos, negsuc, In, Each, Each2, rules}
use Rattle.transform.specs.TransformBounds.{numeral_in, near_zero, each2_wider, transpose_in}
use Rattle.transform.specs.TransformLaws.{vertical_lines}
use Rattle.transform.proofs.short.first_pass.Statement.{statement}
use Rattle.transform.proofs.short.first_pass.Tie as tie

-- what a line requires at column x
ask : (s : tie.After-turned-t) (x : ℕ) → Each (negsuc 7999) (pos 8000) (get_or s.turned-t.result x []) × In (pos 0) (pos 4) (pos 0)
ask s x =
    let e : Each2 (negsuc 7999) (pos 8000) s.turned-t.result = rw s.turned-t.ensures (transpose_in (near_zero 8000) (each2_wider s.requires tt)) in
    (record { at = e.at x }, numeral_in _ tt)

returns : tie.Need-returns
returns c =
    vertical_lines false _ c.turned-t.ensures c.short_line.ensures c.short_line-2.ensures
    c.short_line-3.ensures c.short_line-4.ensures c.turned.ensures

pub first_pass_spec : {M : Type 1} → statement M
first_pass_spec = tie.close (tie.spec (λ c κs. search rules) (λ c. search rules) (λ c κs. ask c.before 0) (λ c. search rules) (λ c κs. ask c.before.before.before 1) (λ c. search rules) (λ c κs. ask c.before.before.before.before.before 2) (λ c. search rules) (λ c κs. ask c.before.before.before.before.before.before.before 3) (λ c κs. search rules) returns)
