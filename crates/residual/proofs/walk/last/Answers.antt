use Rattle.numbers.specs.Words.{suc, ◌+◌}
use Rattle.reader.specs.TokenLaws.{eleven_at_lem}
use Rattle.wide.specs.WideRuns.{walking_start, walking_two}
use Rattle.residual.proofs.walk.last.Goals as goal

pub returns : goal.returns
returns c = (
  λ m r v l f.
      walking_two 0 m (λ i. (c.shared_slice_known-1.given i).fits) (c.shared_slice_known-2-1.given (c.args.at + c.args.i)).fits (eleven_at_lem c.args.table.now c.args.at c.args.i c.requires.at_in_bounds.1) (walking_start (suc m) c.args.i r v l f) c.even-a.ensures.0 c.requires.false_value.0 c.requires.false_value.1 c.leaf.ensures.0,
  (c.leaf.ensures.1, c.even-a.ensures.1),
)
