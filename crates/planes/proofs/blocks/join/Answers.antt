-- `join` meets its contract: a number a turn.
use Rattle.numbers.specs.Words.{◌+◌, arith, ◌≡◌, get_or, pos, inside, any, w16}
use Rattle.planes.specs.PiecesLaws.{joined_none, joined_next, joined_zero}
use Rattle.planes.proofs.blocks.join.Goals as goal

pub loop-i-init : goal.loop-i-init
loop-i-init c = (omega arith, joined_none c.requires.1)

pub loop-i-preserved : goal.loop-i-preserved
loop-i-preserved c =
    let y = get_or c.args.c.now (c.args.from + c.loop-i.i) (pos 0) in (
      omega arith,
      joined_next (omega arith) (inside (any w16 {z = y} (record { sfits = c.some-in-loop-i-1.given })))
          (joined_zero (get_or c.loop-i.some c.loop-i.i (pos 0)) y (record { sfits = c.some-1.given }) (record { sfits = c.some-in-loop-i-1.given })) c.loop-i.invariant.1,
    )

pub returns : goal.returns
returns c = let e : c.loop-i.i ≡ 8 = omega arith in rw e at c.loop-i.invariant.1
