-- `result` meets its contract in each branch.
use Rattle.numbers.specs.Words.{◌∙◌, ap, List, [], ◌∷◌, inside_read, wider, Var, is, E, know, shr, v, known, there, answered, wrap_z, wrap_in, w32}
use Rattle.transform.proofs.result.Statement.{statement}
use Rattle.transform.proofs.result.Tie as tie

abbrev ρ : tie.Start → List Var
ρ s = known (there w32 s.requires tt) ∷ []

abbrev eighth : E
eighth = shr (v 0) 3

wrapped-requires : tie.Need-wrapped-requires
wrapped-requires c κs = inside_read (wider (know w32 (ρ c.before) eighth tt) tt)

returns : tie.Need-returns-then-walsh
returns c = rw c.if-walsh.true (answered w32 (c.wrapped.ensures ∙ ap wrap_z (is w32 (ρ c.before.before) eighth tt)) (wrap_in _) tt).eq

returns-2 : tie.Need-returns-else-walsh
returns-2 c = rw c.if-walsh.false (is w32 (ρ c.before) eighth tt)

pub result_spec : {M : Type 1} → statement M
result_spec = tie.close (tie.spec wrapped-requires returns returns-2)
