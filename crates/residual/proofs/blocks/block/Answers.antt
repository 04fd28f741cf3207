-- `block` meets its contract: with arguments in range the checked call is the grammar's block.
use Rattle.numbers.specs.Words.{arith, ap, lit<, w32}
use Rattle.coefficients.specs.BlockLaws.{from_block}
use Rattle.residual.proofs.Zero.{zero_is}
use Rattle.residual.specs.Parts.{BlockPart}
use Rattle.residual.specs.ResidualSteps.{coded_read}
use Rattle.residual.proofs.Turns.{kind_fine, sixteen_fine, advance_lost, advance_read}
use Rattle.residual.proofs.blocks.block.Goals as goal
use Rattle.residual.proofs.blocks.block.Goals.{After-decode-b}

pub context_at-ctx-requires : goal.context_at-ctx-requires
context_at-ctx-requires c = ((c.requires.0.whole.top, c.requires.0.whole.left), (omega (arith, c.location-p.ensures.1.0), omega (arith, c.location-p.ensures.1.1)))

-- the block as it was read
part : (c : After-decode-b) → BlockPart c.args.table.now c.kind_of-k.result c.context_at-ctx.result c.sixteen-c.result c.args.s.now c.args.m.reader c.decode-b.result c.decode-b.new.out
part c =
    coded_read _ _ _ _ _ _ c.requires.0.reader c.requires.0.size (kind_fine c.args.f c.args.small c.args.i c.kind_of-k.ensures) c.context_at-ctx.ensures.1 (sixteen_fine _ c.sixteen-c.ensures c.requires.0.whole.each) c.decode-b.ensures

pub returns-in_default : goal.returns-in_default
returns-in_default c =
    advance_lost c.args.s.now c.args.table.now c.args.f c.args.m c.args.flat.now c.args.small c.args.i c.kind_of-k.ensures c.location-p.ensures.0 c.sixteen-c.ensures
    c.context_at-ctx.ensures.0 (part (goal.at.returns-in_default c).After-decode-b) (ap (from_block c.decode-b.new.out) c.in_default.is)

pub store-requires : goal.store-requires
store-requires c = omega (arith, c.requires.0.whole.long, c.requires.1)

pub passed-next-requires : goal.passed-next-requires
passed-next-requires c = (omega (arith, c.location-p.ensures.1.0), omega (arith, c.location-p.ensures.1.1))

pub returns : goal.returns
returns c =
    advance_read c.args.s.now c.args.table.now c.args.f c.args.m c.args.flat.now c.args.small c.args.i c.kind_of-k.ensures c.location-p.ensures.0 c.sixteen-c.ensures
    c.context_at-ctx.ensures.0 (part (goal.at.returns c).After-decode-b) c.in-Ok.is c.store.ensures
    (zero_is w32 _ (record { sfits = c.empty-1.given }) (record { sfits = lit< tt })) c.passed-next.ensures
