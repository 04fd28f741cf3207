use Rattle.numbers.specs.Words.{arith, sym, ◌∙◌, not-false, not-true}
use Rattle.frame.specs.TakeLaws.{first_small, take_tag, take_first, take_short, take_coded}
use Rattle.take.proofs.take.Goals as goal

pub overflow_add-inside : goal.overflow_add-inside
overflow_add-inside c = omega (arith, c.first_size-size.ensures, first_small c.args.bytes.now (λ i. (c.shared_slice_known-1.given i).fits))

pub returns-then-not-key : goal.returns-then-not-key
returns-then-not-key c = c.nothing.ensures ∙ take_tag _ (sym c.good-key.ensures ∙ not-true _ c.if-not-key.true-raw)

pub returns-then-not-inside : goal.returns-then-not-inside
returns-then-not-inside c = c.nothing-then-not-inside.ensures ∙ take_first _ (sym c.good-key.ensures ∙ not-false _ c.if-not-key.false-raw) c.first_size-size.ensures (not-true _ c.if-not-inside.true-raw)

pub returns-then-size-lt2 : goal.returns-then-size-lt2
returns-then-size-lt2 c = c.nothing-then-size-lt2.ensures ∙ take_short _ (sym c.good-key.ensures ∙ not-false _ c.if-not-key.false-raw) c.first_size-size.ensures (not-false _ c.if-not-inside.false-raw) c.if-size-lt2.true

pub returns : goal.returns
returns c = c.read.ensures ∙ take_coded _ (sym c.good-key.ensures ∙ not-false _ c.if-not-key.false-raw) c.first_size-size.ensures (not-false _ c.if-not-inside.false-raw) c.if-size-lt2.false c.part.ensures
