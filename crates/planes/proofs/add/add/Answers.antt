-- `add` meets its contract in each branch: where the first coefficient is 0 too, there is nothing to add.
use Rattle.numbers.specs.Words.{ℕ, ◌≡◌, ◌∙◌, ap, Bool, true, false, cond, lit<, List, Bytes, any, same_bits, w16}
use Rattle.planes.specs.Pieces.{mean_added}
use Rattle.planes.specs.PiecesLaws.{mean_none}
use Rattle.planes.proofs.add.add.Goals as goal

-- what is left where a block is coded, and where it is not
module _ (coded : Bool) (x y : List ℕ) {q : List ℕ} where
  chosen : coded ≡ true → q ≡ x → q ≡ cond coded x y
  chosen e f = rw e f

  other : coded ≡ false → q ≡ y → q ≡ cond coded x y
  other e f = rw e f

pub returns-then-coded : goal.returns-then-coded
returns-then-coded c = record { p_after = chosen _ _ _ c.if-coded.true c.add_lane.ensures; bytes = λ k. (c.slice_known-1.given k).fits }

pub returns-then-dc-ne0 : goal.returns-then-dc-ne0
returns-then-dc-ne0 c = record { p_after = other _ _ _ c.if-coded.false (c.add_mean.ensures ∙ ap (mean_added _ _ _) (any w16 c.ranges.dc).eq); bytes = λ k. (c.slice_known-1.given k).fits }

pub returns-else-dc-ne0 : goal.returns-else-dc-ne0
returns-else-dc-ne0 c =
    let b : Bytes c.args.p.now = λ k. (c.slice_known-1.given k).fits in
    record { p_after = other _ _ _ c.if-coded.false (mean_none _ b _ _ (same_bits w16 c.ranges.dc (record { sfits = lit< tt }) c.if-dc-ne0.false)); bytes = b }
