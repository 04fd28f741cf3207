use Rattle.numbers.specs.Words.{rules}
use Rattle.casefile.specs.RunLaws.{given_is}
use Rattle.casefile.proofs.run.through.Statement.{statement}
use Rattle.casefile.proofs.run.through.Tie as tie

abbrev called : tie.After-slice_known-12-1 → tie.After-decode-d
called c = c.before.before.before.before.before.before.before.before.before.before.before.before

abbrev given : tie.After-decode-d → tie.After-tile_of
given c = c.before.before.before.before.before.before.before.before

returns : tie.Need-returns
returns c =
    let d = called c in
    let g = given d in
    given_is _ _ d.decode-d.ensures.0 g.tile_of.ensures g.header-h.ensures

pub through_spec : {M : Type 1} → statement M
through_spec = tie.close (tie.spec (λ c κs. search rules) (λ c κs. search rules) (λ c. search rules) (λ c κs. search rules) (λ c. search rules) (λ c. search rules) (λ c. search rules) (λ c. search rules) (λ c. search rules) (λ c. search rules) returns)
