use Rattle.numbers.specs.Words.{arith, sym, ◌∙◌, ap, Bool}
use Rattle.residual.specs.QuickLaws.{kind_first}
use Rattle.residual.specs.Residual.{luma_kind}
use Rattle.recode.specs.BlockCopies.{kind_luma_at, kind_chroma_at}
use Rattle.recode.proofs.block.kind_of.Goals as goal

pub returns-then-j-eq0 : goal.returns-then-j-eq0
returns-then-j-eq0 c = (λ f. λ i. (kind_first f c.args.small c.args.j c.if-j-eq0.true i).kind, omega arith)

pub returns-then-j-ge17 : goal.returns-then-j-ge17
returns-then-j-ge17 c = (λ f. kind_chroma_at f c.args.small c.args.j c.if-j-ge17.true, omega arith)

pub returns-then-small : goal.returns-then-small
returns-then-small c = (λ f. sym (ap (λ (b : Bool). (luma_kind f b).kind) c.if-small.true) ∙ kind_luma_at f c.args.small c.args.j c.if-j-eq0.false c.if-j-ge17.false, omega arith)

pub returns : goal.returns
returns c = (λ f. sym (ap (λ (b : Bool). (luma_kind f b).kind) c.if-small.false) ∙ kind_luma_at f c.args.small c.args.j c.if-j-eq0.false c.if-j-ge17.false, omega arith)
