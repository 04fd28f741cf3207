-- `among` meets its contract for both sizes.
use Rattle.numbers.specs.Words.{arith, ◌≡◌, ⊎_elim}
use Rattle.planes.proofs.checks.among.Goals as goal

pub returns-then-size-eq16 : goal.returns-then-size-eq16
returns-then-size-eq16 c = rw c.if-size-eq16.true

pub returns-else-size-eq16 : goal.returns-else-size-eq16
returns-else-size-eq16 c = let e : c.args.size ≡ 8 = ⊎_elim (λ z. z) (λ z. absurd (omega (arith, c.if-size-eq16.false))) c.requires in rw e
