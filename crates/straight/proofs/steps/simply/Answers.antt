-- `simply` meets its contract.
use Rattle.numbers.specs.Words.{refl, ◌∙◌, ap, answered, signed_in, w8}
use Rattle.filter.specs.Kernel.{samples_across, across, tapped, moved_of}
use Rattle.straight.specs.BytesLaws.{only_read, step_read, pull_read, same_sides, simple_steps}
use Rattle.straight.proofs.steps.simply.Goals as goal

pub returns : goal.returns
unfolding tapped
returns c =
    let taps = answered w8 c.taps.ensures (signed_in 127 _) tt in
    let a = only_read (pull_read taps (across (samples_across c.args.e.now)) c.pull.ensures) c.args.acts c.only-a.ensures in
    let p = (step_read a 3 c.eighth.ensures).eq in
    let q = (step_read a 4 c.eighth-2.ensures).eq in
    c.moved.ensures ∙ ap (moved_of c.args.e.now) (same_sides refl refl p q ∙ simple_steps c.args.acts (tapped (samples_across c.args.e.now)))
