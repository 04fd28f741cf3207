use Rattle.reader.specs.ReadingLaws.{Bytes}
use Rattle.modes.proofs.Steps.{reads_prefix}
use Rattle.modes.proofs.quick.head.Goals as goal

pub returns : goal.returns
returns c =
    let y : Bytes c.args.s.now = (λ i. (c.type_inv.s i).fits) in
    reads_prefix c.args.a c.args.s.now y c.segment-segment.ensures c.fill.ensures (c.skip-k.ensures c.args.s.now y) c.fill-2.ensures c.bit-b.ensures
