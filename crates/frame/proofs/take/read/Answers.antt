use Rattle.numbers.specs.Words.{sym, ◌∙◌, not-false, not-true}
use Rattle.frame.specs.TakeLaws.{read_missing, read_given, read_fine}
use Rattle.frame.proofs.take.read.Goals as goal

pub returns-then-not-valid : goal.returns-then-not-valid
returns-then-not-valid c = c.nothing.ensures ∙ read_missing _ _ (λ i. (c.shared_slice_known-2-1.given i).fits) c.before.before.before.before.before.before.«open».ensures c.coded.ensures (sym c.valid.ensures ∙ not-true _ c.if-not-valid.true-raw)

pub placed-requires : goal.placed-requires
placed-requires c = read_fine c.args.b.now _ (λ i. (c.shared_slice_known-2-1.given i).fits) c.before.before.before.before.before.«open».ensures c.coded.ensures (sym c.valid.ensures ∙ not-false _ c.if-not-valid.false-raw)

pub returns : goal.returns
returns c = c.placed.ensures ∙ read_given _ _ (λ i. (c.shared_slice_known-2-1.given i).fits) c.before.before.before.before.before.before.«open».ensures c.coded.ensures (sym c.valid.ensures ∙ not-false _ c.if-not-valid.false-raw)
