-- `inner` meets its contract.
use Rattle.numbers.specs.Words.{refl, ◌∙◌, ap, not, [], ◌∷◌, pos, ◌-ℤ◌, wider, Var, E, know, fits, ◌⊕◌, lit, shr, v, known, answered, signed_byte_z, signed_in, w8, rules}
use Rattle.filter.specs.Kernel.{samples_across, across, tapped, moved_of}
use Rattle.straight.specs.BytesLaws.{only_read, step_read, pull_read, same_sides, inner_steps_lem}
use Rattle.straight.proofs.steps.inner.Statement.{statement}
use Rattle.straight.proofs.steps.inner.Tie as tie

-- what the two samples at the edge move by, as the machine reads it
abbrev a : tie.After-only-a → Var
a c =
    let taps = only_read (answered w8 c.taps.ensures (signed_in 127 _) tt) c.args.high c.only.ensures in
    known (only_read (pull_read taps (across (samples_across c.args.e.now)) c.pull.ensures) c.args.acts c.only-a.ensures)

abbrev near : tie.After-eighth-near → Var
near c = known (step_read (a c.before).is 4 c.eighth-near.ensures)

abbrev next : E
next = shr (v 0 ⊕ lit (pos 1)) 1

returns : tie.Need-returns
unfolding tapped
returns c =
    let h = (only_read (wider (know w8 (near c.before.before.before ∷ []) next tt) tt) (not c.args.high) c.only-next.ensures).eq in
    let p = (step_read (a c.before.before.before.before).is 3 c.eighth.ensures).eq in
    let z = samples_across c.args.e.now in
    c.moved.ensures ∙ ap (moved_of c.args.e.now) (same_sides refl h p (near c.before.before.before).is.eq ∙ inner_steps_lem c.args.acts c.args.high (across z) (signed_byte_z (z.p1 -ℤ z.q1)))

pub inner_spec : {M : Type 1} → statement M
inner_spec = tie.close (tie.spec (λ c κs. search rules) (λ c κs. search rules) (λ c κs. search rules) (λ c κs. search rules) (λ c κs. search rules) (λ c. fits w8 (near c ∷ []) (v 0 ⊕ lit (pos 1)) tt) (λ c κs. search rules) (λ c κs. search rules) (λ c κs. search rules) returns)
