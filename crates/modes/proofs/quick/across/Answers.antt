use Rattle.numbers.specs.Words.{refl, true, false, lit<, not-false, not-true}
use Rattle.reader.specs.ReadingLaws.{Bytes}
use Rattle.modes.specs.Modes.{b_tree}
use Rattle.modes.proofs.Steps.{walk_node, walk_leaf, walk_last, last_below}
use Rattle.modes.proofs.quick.across.Goals as goal

pub returns-then-not-a : goal.returns-then-not-a
returns-then-not-a c =
    let z : Bytes c.args.probs.now = (λ i. (c.type_inv.probs i).fits) in
    (λ s y. walk_leaf s c.args.probs.now b_tree y z 7 0 27 4 c.args.w false c.bit-a.ensures (not-true _ c.if-not-a.true) refl, lit< tt)

pub returns : goal.returns
returns c =
    let z : Bytes c.args.probs.now = (λ i. (c.type_inv.probs i).fits) in (
      λ s y.
          walk_node s c.args.probs.now b_tree y z 7 0 27 4 c.args.w true c.bit-a.ensures (not-false _ c.if-not-a.false) refl
          (walk_last s c.args.probs.now b_tree y z 0 0 26 5 c.bit-a.result.next c.last.ensures refl refl),
      last_below _ _ _ _ 10 c.last.ensures (lit< tt) (lit< tt),
    )
