use Rattle.transform.specs.LanesLaws.{squares_zeros}
use Rattle.residual.specs.SquaresLaws.{laid_squares}
use Rattle.residual.proofs.flat.squares.Goals as goal

pub returns-then-skip : goal.returns-then-skip
returns-then-skip c = squares_zeros (rw c.requires.out_len.0 at (c.fill.ensures.after (λ y e. e))) (c.requires.each.1 c.if-skip.true)

pub returns : goal.returns
returns c = laid_squares c.args.out.now c.args.flat.now c.requires.out_len.0 c.lay.ensures c.lay-2.ensures
