-- `place` meets its contract: eleven more stay within the table.
use Rattle.numbers.specs.Words.{arith, ◌≡◌, get_or}
use Rattle.coefficients.specs.BlockSteps.{band_below}
use Rattle.coefficients.specs.Block.{bands, probability_place}
use Rattle.coefficients.proofs.block.place.Goals as goal

pub entry-requires-clause-by_index : goal.entry-requires-clause-by_index
entry-requires-clause-by_index c = λ k. rw c.requires.table_value (omega (arith, band_below k))

pub returns : goal.returns
unfolding probability_place
returns c =
    let e : c.entry.result ≡ get_or bands c.args.n 0 = rw c.requires.table_value at c.entry.ensures.0 in
    (rw e, omega (arith, e, band_below c.args.n, c.requires.kind_bound))
