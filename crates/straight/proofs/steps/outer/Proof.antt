-- `outer` meets its contract.
use Rattle.numbers.specs.Words.{◌∙◌, ap, not, List, [], ◌∷◌, Var, is, fits, ◌⊕◌, v, known, answered, signed_in, w8, rules}
use Rattle.filter.specs.Kernel.{samples_across, across, tapped, moved_of}
use Rattle.straight.specs.BytesLaws.{only_read, step_read, part_read, pull_read, eight_moved, same_sides, outer_steps}
use Rattle.straight.proofs.steps.outer.Statement.{statement}
use Rattle.straight.proofs.steps.outer.Tie as tie

-- the step across the edge, where a rule acts; and that of either rule
abbrev w : tie.After-only-w → Var
w c =
    known (only_read (pull_read (answered w8 c.taps.ensures (signed_in 127 _) tt) (across (samples_across c.args.e.now)) c.pull.ensures) c.args.acts c.only-w.ensures)

abbrev a : tie.After-only-a → Var
a c = known (only_read (w c.before).is c.args.high c.only-a.ensures)

abbrev b : tie.After-only-b → Var
b c = known (only_read (w c.before.before).is (not c.args.high) c.only-b.ensures)

-- the steps
abbrev near : tie.After-part-near → Var
near c = known (part_read (b c.before).is 27 c.part-near.ensures tt)

abbrev p0 : tie.After-eighth → List Var
p0 c = known (step_read (a c.before.before.before.before.before.before.before.before.before.before.before.before.before).is 3 c.eighth.ensures) ∷ near c.before.before.before.before.before.before.before.before.before.before.before ∷ []

abbrev q0 : tie.After-eighth-2 → List Var
q0 c = known (step_read (a c.before.before.before.before.before.before.before.before.before.before.before.before.before.before.before.before).is 4 c.eighth-2.ensures) ∷ near c.before.before.before.before.before.before.before.before.before.before.before.before.before.before ∷ []

returns : tie.Need-returns
unfolding tapped
returns c =
    let f = (part_read (b c.before.before.before.before.before.before.before.before.before.before.before.before.before.before.before.before.before.before.before.before.before.before).is 9 c.part-far.ensures tt).eq in
    let n = (part_read (b c.before.before.before.before.before.before.before.before.before.before.before.before.before.before.before.before.before.before.before.before.before.before).is 18 c.part-next.ensures tt).eq in
    let p = is w8 (p0 c.before.before.before.before.before.before.before.before.before.before) (v 0 ⊕ v 1) tt in
    let q = is w8 (q0 c.before.before.before.before.before.before.before) (v 0 ⊕ v 1) tt in
    eight_moved c.args.e.now _ _ _ _ _ _
    c.still.ensures c.raised.ensures c.raised-2.ensures c.raised-3.ensures
    c.taken.ensures c.taken-2.ensures c.taken-3.ensures c.still-2.ensures
    ∙ ap (moved_of c.args.e.now) (same_sides f n p q ∙ outer_steps c.args.acts c.args.high (tapped (samples_across c.args.e.now)))

pub outer_spec : {M : Type 1} → statement M
outer_spec = tie.close (tie.spec (λ c κs. search rules) (λ c κs. search rules) (λ c κs. search rules) (λ c κs. search rules) (λ c κs. search rules) (λ c κs. search rules) (λ c κs. search rules) (λ c κs. search rules) (λ c. search rules) (λ c κs. search rules) (λ c. search rules) (λ c κs. search rules) (λ c. search rules) (λ c κs. search rules) (λ c. search rules) (λ c κs. search rules) (λ c. fits w8 (p0 c) (v 0 ⊕ v 1) tt) (λ c κs. search rules) (λ c. search rules) (λ c κs. search rules) (λ c. fits w8 (q0 c) (v 0 ⊕ v 1) tt) (λ c κs. search rules) (λ c. search rules) (λ c κs. search rules) (λ c. search rules) (λ c κs. search rules) (λ c. search rules) (λ c κs. search rules) returns)
