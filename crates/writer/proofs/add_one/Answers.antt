use Rattle.numbers.specs.Words.{ℕ, arith, refl, sym, ◌∙◌, ap}
use Rattle.writer.specs.Encoder.{add_one_of}
use Rattle.writer.specs.RoomLaws.{add_one_none, add_one_next, add_one_last}
use Rattle.writer.proofs.add_one.Goals as goal

pub loop-i-init : goal.loop-i-init
loop-i-init c = refl

pub returns-then-b : goal.returns-then-b
returns-then-b c = add_one_last c.loop-i.i c.loop-i.out (omega arith) c.if-b.true ∙ c.loop-i.invariant

pub loop-i-preserved : goal.loop-i-preserved
loop-i-preserved c = add_one_next c.loop-i.i c.loop-i.out (omega arith) c.if-b.false ∙ c.loop-i.invariant

pub returns : goal.returns
returns c = sym (add_one_none c.loop-i.out) ∙ ap (λ (k : ℕ). add_one_of k c.loop-i.out) {x = 0} {y = c.loop-i.i} (omega arith) ∙ c.loop-i.invariant
