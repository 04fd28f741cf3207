use Rattle.numbers.specs.Words.{arith, ◌≡◌, sym, ◌∙◌}
use Rattle.profile.specs.ProfileLaws.{looking_start, looking_here, looking_next, looking_end}
use Rattle.profile.proofs.both.first_both.Goals as goal

pub loop-k-init : goal.loop-k-init
loop-k-init c = looking_start _ _

pub returns-then-both : goal.returns-then-both
returns-then-both c = looking_here _ _ _ c.loop-k.invariant c.loop-k-test.true (sym c.both.ensures ∙ c.if-both.true)

pub loop-k-preserved : goal.loop-k-preserved
loop-k-preserved c = looking_next _ _ _ c.loop-k.invariant c.loop-k-test.true (sym c.both.ensures ∙ c.if-both.false)

pub returns : goal.returns
returns c =
    let e : c.loop-k.k ≡ c.args.blocks = omega (arith, c.loop-k.invariant.sum, c.loop-k-test.false) in
    rw e at (looking_end _ _ _ c.loop-k.invariant c.loop-k-test.false)
