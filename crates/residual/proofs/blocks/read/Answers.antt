use Rattle.numbers.specs.Words.{arith}
use Rattle.residual.specs.Parts.{Held}
use Rattle.residual.proofs.Turns.{first, first_held, dc_held, dc_few, rest_few, read_skipped, read_lost, read_on}
use Rattle.residual.proofs.blocks.read.Goals as goal
use Rattle.residual.proofs.blocks.read.Goals.{In-Some}

pub returns-then-skip : goal.returns-then-skip
returns-then-skip c = read_skipped c.args.s.now c.args.table.now c.args.f c.args.small c.args.skip c.args.r c.args.top c.args.left c.requires.flags.1 c.if-skip.true c.skipped-next.ensures

pub dc_stage-t-requires : goal.dc_stage-t-requires
dc_stage-t-requires c = first_held c.args.s.now c.args.table.now c.args.f c.args.small c.args.skip c.args.r c.args.top c.args.left c.requires.flags.1 c.requires.valid.0 c.requires.valid.1 c.requires.flags.0.0 c.requires.flags.0.1

pub returns-in_default : goal.returns-in_default
returns-in_default c = read_lost c.args.s.now c.args.table.now c.args.f c.args.small c.args.skip c.args.r c.args.top c.args.left c.requires.flags.1 c.if-skip.false c.dc_stage-t.result _ c.dc_stage-t.ensures c.in_default.is

-- what the first part was given, and what it leaves to the others
begun : (c : In-Some) → Held c.args.s.now c.args.table.now (first c.args.r c.args.top c.args.left) c.args.flat.now
begun c = first_held c.args.s.now c.args.table.now c.args.f c.args.small c.args.skip c.args.r c.args.top c.args.left c.requires.flags.1 c.requires.valid.0 c.requires.valid.1 c.requires.flags.0.0 c.requires.flags.0.1

left : (c : In-Some) → Held c.args.s.now c.args.table.now c.in-Some.next c.dc_stage-t.new.flat
left c = dc_held c.args.table.now c.args.f c.args.small c.dc_stage-t.result _ (begun c) (λ i. (c.type_inv.table i).fits) c.dc_stage-t.ensures (λ i. (c.type_inv.s i).fits) c.in-Some.is

pub blocks-rest-requires : goal.blocks-rest-requires
blocks-rest-requires c = left (goal.at.blocks-rest-requires c).In-Some

pub overflow_add-result : goal.overflow_add-result
overflow_add-result c =
    let d = (goal.at.overflow_add-result c).In-Some in
    record {
      fits = omega (
        arith,
        dc_few c.args.table.now c.args.f c.args.small c.dc_stage-t.result _ (begun d) (λ i. (c.type_inv.table i).fits) c.dc_stage-t.ensures,
        rest_few c.args.table.now c.args.f c.args.small c.blocks-rest.result _ (left d) (λ i. (c.type_inv.table i).fits) c.blocks-rest.ensures,
      );
    }

pub returns : goal.returns
returns c = read_on c.args.s.now c.args.table.now c.args.f c.args.small c.args.skip c.args.r c.args.top c.args.left c.requires.flags.1 c.if-skip.false c.dc_stage-t.result _ c.dc_stage-t.ensures c.in-Some.is c.blocks-rest.result _ c.blocks-rest.ensures
