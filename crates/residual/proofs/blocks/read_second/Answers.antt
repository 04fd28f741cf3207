-- `read_second` meets its contract: with arguments in range the checked call is the grammar's block.
use Rattle.numbers.specs.Words.{arith, ap, replicate, pos}
use Rattle.coefficients.specs.BlockLaws.{from_block}
use Rattle.residual.proofs.Turns.{second_fine, second_lost, second_read}
use Rattle.residual.specs.ResidualLaws.{zeros_sixteen}
use Rattle.residual.specs.Parts.{BlockPart}
use Rattle.residual.specs.ResidualSteps.{coded_read}
use Rattle.residual.proofs.blocks.read_second.Goals as goal
use Rattle.residual.proofs.blocks.read_second.Goals.{After-decode-b}

pub context_at-ctx-requires : goal.context_at-ctx-requires
context_at-ctx-requires c = ((c.requires.whole.top, c.requires.whole.left), (omega arith, omega arith))

-- the block as it was read
part : (c : After-decode-b) → BlockPart c.args.table.now c.second_kind-k.result c.context_at-ctx.result (replicate 16 (pos 0)) c.args.s.now c.args.m.reader c.decode-b.result c.decode-b.new.out
part c =
    coded_read _ _ _ _ _ _ c.requires.reader c.requires.size (second_fine c.args.f c.second_kind-k.ensures) c.context_at-ctx.ensures.1 zeros_sixteen c.decode-b.ensures

pub returns-in_default : goal.returns-in_default
returns-in_default c = second_lost c.args.s.now c.args.table.now c.args.f c.args.m c.args.flat.now c.second_kind-k.ensures c.context_at-ctx.ensures.0 (part (goal.at.returns-in_default c).After-decode-b) (ap (from_block c.decode-b.new.out) c.in_default.is)

pub returns : goal.returns
returns c =
    second_read c.args.s.now c.args.table.now c.args.f c.args.m c.args.flat.now c.second_kind-k.ensures c.context_at-ctx.ensures.0 (part (goal.at.returns c).After-decode-b)
    c.requires.reader (λ i. (c.shared_slice_known-1.given i).fits) (λ i. (c.shared_slice_known-2-1.given i).fits)
    c.in-Ok.is c.transform-t.ensures c.spread.ensures c.passed-next.ensures
