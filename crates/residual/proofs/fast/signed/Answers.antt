use Rattle.numbers.specs.Words.{◌*◌, ◌∙◌, ap, answered, wrap_z, wrap_in, w16}
use Rattle.wide.specs.declared.wide.Bit.{Bit}
use Rattle.coefficients.specs.Block.{sign_of}
use Rattle.residual.proofs.fast.signed.Goals as goal

pub returns : goal.returns
returns c =
    let e = (answered w16 c.product.ensures (wrap_in _) tt).eq in
    (ap (λ (b : Bit). b.next) c.half-g.ensures, (e ∙ ap (λ (b : Bit). wrap_z (sign_of b.on (c.args.v * c.args.q))) c.half-g.ensures, rw e (wrap_in _)))
