use Rattle.residual.specs.FastLaws.{counting_one, counting_more}
use Rattle.residual.specs.SymbolsLaws.{ranged_fill}
use Rattle.residual.proofs.fast.read_number.Goals as goal

pub returns-then-o : goal.returns-then-o
returns-then-o c = (counting_more c.args.s.now c.args.table.now c.args.at (λ i. (c.shared_slice_known-1.given i).fits) (λ i. (c.shared_slice_known-2-1.given i).fits) c.bit-o.ensures.0 c.if-o.true c.above-t.ensures.1.0.0 c.above-t.ensures.1.0.1 c.above-t.ensures.0 c.coded_magnitude-m.ensures.0 c.coded_magnitude-m.ensures.1.0 c.symbols.ensures.0 c.fill-full.ensures, ranged_fill _ c.fill-full.ensures c.coded_magnitude-m.ensures.1.1)

pub returns : goal.returns
returns c = (counting_one c.args.s.now c.args.table.now c.args.at (λ i. (c.shared_slice_known-1.given i).fits) (λ i. (c.shared_slice_known-2-1.given i).fits) c.bit-o.ensures.0 c.if-o.false, c.bit-o.ensures.1)
