use Rattle.macroblock.proofs.ending.complete.Goals as goal

pub told-requires : goal.told-requires
told-requires c = (c.bottom.ensures, c.right.ensures)

pub returns : goal.returns
returns c = λ i. record { answer = c.told.ensures i; planes = c.squares.ensures i }
