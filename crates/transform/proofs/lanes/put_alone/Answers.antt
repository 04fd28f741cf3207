-- `put_alone` meets its contract: a number a turn.
use Rattle.numbers.specs.Words.{arith, ◌≡◌, refl, sym, ◌∙◌, ap, false, never, List, stored_none, stored_next, ℤ, answered, back, signed_in, w16, w32}
use Rattle.transform.specs.Transform.{at, samples_of}
use Rattle.transform.specs.Lanes.{short_residual}
use Rattle.transform.proofs.lanes.put_alone.Goals as goal

pub block-b-requires : goal.block-b-requires
block-b-requires c = c.requires

pub samples-s-requires : goal.samples-s-requires
samples-s-requires c = record { coefficients_in = rw c.block-b.ensures.0 c.block-b.ensures.1; plain_to = λ e. absurd (never e refl) }

pub loop-k-init : goal.loop-k-init
loop-k-init c = (omega arith, c.samples-s.ensures ∙ ap (samples_of false) c.block-b.ensures.0, sym (stored_none _ _ _))

pub loop-k-preserved : goal.loop-k-preserved
loop-k-preserved c =
    let e = c.nearest.ensures ∙ ap short_residual (back w32 c.nearest-arg-1.given) in
    let n = (answered w16 e (signed_in 32512 _) tt).eq ∙ ap (λ (x : List ℤ). short_residual (at x c.loop-k.k)) c.loop-k.invariant.1 in
    (omega arith, c.loop-k.invariant.1, rw (n, c.loop-k.invariant.2) (stored_next _ _ _ _))

pub returns : goal.returns
returns c = let e : c.loop-k.k ≡ 16 = omega arith in rw e at c.loop-k.invariant.2
