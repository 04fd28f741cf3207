use Rattle.recode.specs.PassLaws.{writes_ample, writes_none, writes_all}
use Rattle.recode.proofs.tokens.rewrite.Goals as goal

pub returns-then-ample : goal.returns-then-ample
returns-then-ample c = writes_ample c.args.bytes.now c.args.tile c.args.header.now c.args.most c.args.columns.now c.args.out.now (λ i. (c.shared_slice_known-1.given i).fits) (c.ample.ensures c.if-ample.true) c.pass-n.ensures

pub returns-then-out-k : goal.returns-then-out-k
returns-then-out-k c = writes_none c.args.bytes.now c.args.tile c.args.header.now c.args.most c.args.columns.now c.args.out.now c.measure-k.ensures c.if-out-k.true

pub returns : goal.returns
returns c = writes_all c.args.bytes.now c.args.tile c.args.header.now c.args.most c.args.columns.now c.args.out.now c.measure-k.ensures c.if-out-k.false c.measure-k.auto.columns c.pass-n-2.ensures
