use Rattle.numbers.specs.Words.{refl, true, false, lit<, lit≤, not-false, not-true}
use Rattle.reader.specs.ReadingLaws.{Bytes}
use Rattle.reader.specs.Trees.{walk}
use Rattle.modes.specs.Modes.{b_tree}
use Rattle.modes.proofs.Steps.{walk_node, walk_leaf, reads_fill, reads_more}
use Rattle.modes.proofs.quick.small_mode.Goals as goal

pub returns-then-not-a : goal.returns-then-not-a
returns-then-not-a c =
    let y : Bytes c.args.s.now = (λ i. (c.type_inv.s i).fits) in
    let z : Bytes c.args.probs.now = (λ i. (c.type_inv.probs i).fits) in (
      reads_fill c.args.s.now (walk 32 c.args.probs.now b_tree 0) 4 0 c.fill.ensures
          (walk_leaf c.args.s.now c.args.probs.now b_tree y z 24 4 31 0 c.fill.result false c.bit-a.ensures (not-true _ c.if-not-a.true) refl),
      lit< tt,
    )

pub returns-then-not-b : goal.returns-then-not-b
returns-then-not-b c =
    let y : Bytes c.args.s.now = (λ i. (c.type_inv.s i).fits) in
    let z : Bytes c.args.probs.now = (λ i. (c.type_inv.probs i).fits) in (
      reads_fill c.args.s.now (walk 32 c.args.probs.now b_tree 0) 4 0 c.fill.ensures
          (walk_node c.args.s.now c.args.probs.now b_tree y z 24 4 31 0 c.fill.result true c.bit-a.ensures (not-false _ c.if-not-a.false) refl
          (walk_leaf c.args.s.now c.args.probs.now b_tree y z 17 4 30 1 c.bit-a.result.next false c.bit-b.ensures (not-true _ c.if-not-b.true) refl)),
      lit< tt,
    )

pub returns-then-not-c : goal.returns-then-not-c
returns-then-not-c c =
    let y : Bytes c.args.s.now = (λ i. (c.type_inv.s i).fits) in
    let z : Bytes c.args.probs.now = (λ i. (c.type_inv.probs i).fits) in (
      reads_fill c.args.s.now (walk 32 c.args.probs.now b_tree 0) 4 0 c.fill.ensures
          (walk_node c.args.s.now c.args.probs.now b_tree y z 24 4 31 0 c.fill.result true c.bit-a.ensures (not-false _ c.if-not-a.false) refl
          (walk_node c.args.s.now c.args.probs.now b_tree y z 17 4 30 1 c.bit-a.result.next true c.bit-b.ensures (not-false _ c.if-not-b.false) refl
          (walk_leaf c.args.s.now c.args.probs.now b_tree y z 10 4 29 2 c.bit-b.result.next false c.bit-c.ensures (not-true _ c.if-not-c.true) refl))),
      lit< tt,
    )

pub returns-then-d : goal.returns-then-d
returns-then-d c =
    let y : Bytes c.args.s.now = (λ i. (c.type_inv.s i).fits) in
    let z : Bytes c.args.probs.now = (λ i. (c.type_inv.probs i).fits) in (
      reads_fill c.args.s.now (walk 32 c.args.probs.now b_tree 0) 4 0 c.fill.ensures
          (walk_node c.args.s.now c.args.probs.now b_tree y z 24 4 31 0 c.fill.result true c.bit-a.ensures (not-false _ c.if-not-a.false) refl
          (walk_node c.args.s.now c.args.probs.now b_tree y z 17 4 30 1 c.bit-a.result.next true c.bit-b.ensures (not-false _ c.if-not-b.false) refl
          (walk_node c.args.s.now c.args.probs.now b_tree y z 10 4 29 2 c.bit-b.result.next true c.bit-c.ensures (not-false _ c.if-not-c.false) refl
          (walk_node c.args.s.now c.args.probs.now b_tree y z 3 4 28 3 c.bit-c.result.next true c.bit-d.ensures c.if-d.true refl
          (reads_fill c.args.s.now (walk 28 c.args.probs.now b_tree 6) 0 4 c.fill-u.ensures
          (reads_more _ (walk 28 _ b_tree 6) 22 32 0 0 (lit≤ tt) (lit≤ tt) (c.slanted.ensures.0 _ y))))))),
      c.slanted.ensures.1,
    )

pub returns-else-d : goal.returns-else-d
returns-else-d c =
    let y : Bytes c.args.s.now = (λ i. (c.type_inv.s i).fits) in
    let z : Bytes c.args.probs.now = (λ i. (c.type_inv.probs i).fits) in (
      reads_fill c.args.s.now (walk 32 c.args.probs.now b_tree 0) 4 0 c.fill.ensures
          (walk_node c.args.s.now c.args.probs.now b_tree y z 24 4 31 0 c.fill.result true c.bit-a.ensures (not-false _ c.if-not-a.false) refl
          (walk_node c.args.s.now c.args.probs.now b_tree y z 17 4 30 1 c.bit-a.result.next true c.bit-b.ensures (not-false _ c.if-not-b.false) refl
          (walk_node c.args.s.now c.args.probs.now b_tree y z 10 4 29 2 c.bit-b.result.next true c.bit-c.ensures (not-false _ c.if-not-c.false) refl
          (walk_node c.args.s.now c.args.probs.now b_tree y z 3 4 28 3 c.bit-c.result.next false c.bit-d.ensures c.if-d.false refl
          (reads_fill c.args.s.now (walk 28 c.args.probs.now b_tree 4) 0 4 c.fill-u.ensures
          (reads_more _ (walk 28 _ b_tree 4) 15 32 0 0 (lit≤ tt) (lit≤ tt) (c.across.ensures.0 _ y))))))),
      c.across.ensures.1,
    )
