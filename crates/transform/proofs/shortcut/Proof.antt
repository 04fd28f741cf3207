-- `shortcut` meets its contract.
use Rattle.numbers.specs.Words.{◌∙◌, ap, List, [], ◌∷◌, replicate, ℤ, inside, inside_read, wider, Var, is, E, know, fits, ◌⊕◌, v, known, there, answered, w32, rules}
use Rattle.transform.specs.Transform.{result_of}
use Rattle.transform.specs.TransformBounds.{bias_in, result_in}
use Rattle.transform.proofs.shortcut.Statement.{statement}
use Rattle.transform.proofs.shortcut.Tie as tie

-- the first coefficient and the bias
abbrev ρ : tie.After-bias → List Var
ρ c =
    known (there w32 c.requires tt) ∷ known (answered w32 c.bias.ensures (bias_in c.args.walsh) tt) ∷ []

abbrev sum : E
sum = v 0 ⊕ v 1

returns : tie.Need-returns
returns c =
    let i = inside (wider (know w32 (ρ c.before) sum tt) tt) in
    ap (λ (x : ℤ). replicate 16 x) (answered w32 (c.result.ensures ∙ ap (result_of c.args.walsh) (is w32 (ρ c.before) sum tt)) (result_in c.args.walsh i) tt).eq

pub shortcut_spec : {M : Type 1} → statement M
shortcut_spec = tie.close (tie.spec (λ c κs. search rules) (λ c. fits w32 (ρ c) sum tt) (λ c κs. inside_read (wider (know w32 (ρ c) sum tt) tt)) returns)
