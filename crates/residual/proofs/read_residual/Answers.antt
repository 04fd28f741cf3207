use Rattle.residual.proofs.Turns.{call_lost, call_got, call_whole, call_zeros}
use Rattle.residual.proofs.read_residual.Goals as goal

pub returns-in_default : goal.returns-in_default
returns-in_default c = call_lost c.args.s.now c.args.r c.args.table.now c.args.f c.args.small c.args.skip c.args.top c.args.left c.args.out.now c.read-t.result _ c.read-t.ensures c.in_default.is c.no_residual.ensures

pub squares-requires : goal.squares-requires
squares-requires c =
    let h = c.in-Some.is in
    let w = call_whole c.args.s.now c.args.r c.args.table.now c.args.f c.args.small c.args.skip c.args.top c.args.left c.args.out.now c.read-t.result _ c.read-t.ensures h c.requires.valid.0
    (λ i. (c.shared_slice_known-1.given i).fits) (λ i. (c.shared_slice_known-2-1.given i).fits) c.requires.flags.0.0 c.requires.flags.0.1 in
    record { out_len = (c.requires.flags.1, w.long); each = (w.each, call_zeros c.args.s.now c.args.r c.args.table.now c.args.f c.args.small c.args.skip c.args.top c.args.left c.args.out.now c.read-t.result _ c.read-t.ensures h) }

pub returns : goal.returns
returns c = call_got c.args.s.now c.args.r c.args.table.now c.args.f c.args.small c.args.skip c.args.top c.args.left c.args.out.now c.read-t.result _ c.read-t.ensures c.in-Some.is c.squares.ensures
