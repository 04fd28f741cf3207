-- `put_row` meets its contract: of the two sizes.
use Rattle.numbers.specs.Words.{◌≡◌, arith, ⊎_elim}
use Rattle.planes.proofs.put.put_row.Goals as goal

pub put-requires-else-size-eq16 : goal.put-requires-else-size-eq16
put-requires-else-size-eq16 c =
    let e : c.args.size ≡ 8 = ⊎_elim (λ z. z) (λ z. absurd (c.if-size-eq16.false z)) c.requires.size in
    (omega (arith, c.requires.size_in_bounds, e), omega arith)

pub returns-then-size-eq16 : goal.returns-then-size-eq16
returns-then-size-eq16 c = rw c.if-size-eq16.true c.put.ensures

pub returns-else-size-eq16 : goal.returns-else-size-eq16
returns-else-size-eq16 c =
    let e : c.args.size ≡ 8 = ⊎_elim (λ z. z) (λ z. absurd (c.if-size-eq16.false z)) c.requires.size in
    rw e c.put-else-size-eq16.ensures
