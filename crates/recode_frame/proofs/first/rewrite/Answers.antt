use Rattle.numbers.specs.Words.{arith}
use Rattle.recode.specs.WalkCopies.{blocks_most}
use Rattle.recode_frame.specs.FirstLaws.{rewrites_done}
use Rattle.recode_frame.proofs.first.rewrite.Goals as goal

pub overflow_mul-blocks : goal.overflow_mul-blocks
overflow_mul-blocks c = omega (arith, blocks_most c.args.tile.width c.args.tile.height c.requires.width c.requires.height)

pub copy_all-end-requires : goal.copy_all-end-requires
copy_all-end-requires c = (omega (arith, c.requires.wide), omega (arith, c.requires.width))

pub returns : goal.returns
returns c = rewrites_done _ c.args.tile _ _ (λ i. (c.shared_slice_known-1.given i).fits) (omega (arith, c.well_formed.0)) c.requires c.before.before.before.before.before.before.before.before.before.before.before.before.before.before.before.before.before.before.«open».ensures c.widen.ensures c.fresh.ensures c.copy_header-headed.ensures c.announced_by.ensures c.copy_all-end.ensures c.flush.ensures
