use Rattle.numbers.specs.Words.{arith, sym, ◌∙◌, ap, bit_small}
use Rattle.reader.specs.ReadingLaws.{answered, from_read, unread_missing}
use Rattle.reader.specs.ExtraLaws.{bits_small}
use Rattle.reader.proofs.Turns.{going_start, going_end, going_missing, going_next}
use Rattle.reader.proofs.extra.read_extra.Goals as goal

pub loop-i-init : goal.loop-i-init
loop-i-init c = going_start c.requires.valid

pub read-requires : goal.read-requires
read-requires c = c.loop-i.invariant.valid

pub overflow_add-value : goal.overflow_add-value
overflow_add-value c = omega (arith, bits_small c.loop-i.invariant.small c.loop-i.auto.i-end c.requires.probs_len_bound)

pub overflow_add-value-in-Ok : goal.overflow_add-value-in-Ok
overflow_add-value-in-Ok c = omega (arith, c.from.ensures, bit_small c.in-Ok.bit, bits_small c.loop-i.invariant.small c.loop-i.auto.i-end c.requires.probs_len_bound)

pub returns-in-Err : goal.returns-in-Err
returns-in-Err c = going_missing c.loop-i.invariant c.loop-i-test.true (answered _ _ _ c.read.ensures ∙ ap from_read c.in-Err.is) (unread_missing _ (sym c.in-Err.is ∙ c.read.ensures))

pub loop-i-preserved : goal.loop-i-preserved
loop-i-preserved c = going_next c.loop-i.invariant (λ i. (c.type_inv.s i).fits) (λ i. (c.type_inv.probs i).fits) c.loop-i-test.true _ _ (answered _ _ _ c.read.ensures ∙ ap from_read c.in-Ok.is) c.from.ensures

pub returns : goal.returns
returns c = going_end c.loop-i.invariant (omega arith)
