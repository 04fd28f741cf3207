use Rattle.macroblock.specs.Macroblock.{ready_of, FrameSizes, AroundSizes}
use Rattle.macroblock.specs.DecodeLaws.{frame_sized}
use Rattle.numbers.specs.Words.{rules}
use Rattle.whole.proofs.ready.Statement.{statement}
use Rattle.whole.proofs.ready.Tie as tie

-- what the types of the frame and of the contexts say
frame_known : (c : tie.Start) → FrameSizes c.args.frame
frame_known c =
    frame_sized c.args.frame (search (rules, c.well_formed.1.1.1.0)) (search (rules, c.well_formed.1.1.1.0)) (λ i. search (rules, c.well_formed.1.1.1.0.1.1.1.1.1.1.0)) (search (rules, c.well_formed.1.1.1.0.1.1.1.1.1.1.0.1.1.1))

around_known : (c : tie.Start) → AroundSizes c.args.around
around_known c = record { top = search (rules, c.well_formed.1.1.1.1.1); left = search (rules, c.well_formed.1.1.1.1.1) }

returns : tie.Need-returns
unfolding ready_of
returns c = (
  rw (c.valid.ensures, c.valid-2.ensures, c.around_fine.ensures, c.frame_fine.ensures),
  (frame_known c.before.before.before.before.before.before.before.before, around_known c.before.before.before.before.before.before.before.before),
)

pub ready_spec : {M : Type 1} → statement M
ready_spec = tie.close (tie.spec (λ c κs. search rules) (λ c κs. search rules) (λ c κs. search rules) (λ c κs. search rules) returns)
