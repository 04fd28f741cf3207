-- `coded_blocks` meets its contract: eight blocks, or twice eight.
use Rattle.numbers.specs.Words.{arith, ◌≡◌, refl}
use Rattle.planes.specs.PiecesLaws.{coded_none, coded_next}
use Rattle.planes.proofs.blocks.coded_blocks.Goals as goal

pub loop-h-init : goal.loop-h-init
loop-h-init c = (omega arith, coded_none refl)

pub some_of_eight-requires : goal.some_of_eight-requires
some_of_eight-requires c = (omega (arith, c.if-n-eq16.true, c.requires.0), omega arith, omega arith)

pub mark-requires : goal.mark-requires
mark-requires c = (omega arith, c.loop-h.invariant.1.long)

pub loop-h-preserved : goal.loop-h-preserved
loop-h-preserved c = (omega arith, coded_next c.loop-h.h c.some_of_eight.ensures c.mark.ensures c.loop-h.invariant.1)

pub returns-then-n-eq16 : goal.returns-then-n-eq16
returns-then-n-eq16 c =
    let e : c.loop-h.h ≡ 2 = omega arith in
    rw c.if-n-eq16.true (rw e at c.loop-h.invariant.1)

pub some_of_eight-requires-2 : goal.some_of_eight-requires-2
some_of_eight-requires-2 c = (omega (arith, c.if-n-eq16.false, c.requires.0, c.requires.1, c.requires.2, c.requires.3), omega arith, omega arith)

pub mark-requires-2 : goal.mark-requires-2
mark-requires-2 c = (omega arith, refl)

pub returns : goal.returns
returns c =
    let e : c.args.n ≡ 8 = omega (arith, c.if-n-eq16.false, c.requires.1, c.requires.2, c.requires.3) in
    rw e (coded_next 0 c.some_of_eight-2.ensures c.mark-2.ensures (coded_none refl))
