use Rattle.numbers.specs.Words.{refl, true, false}
use Rattle.reader.specs.ReadingLaws.{Bytes}
use Rattle.modes.specs.Modes.{tree}
use Rattle.modes.specs.Quick.{fork_of}
use Rattle.modes.proofs.Steps.{branch_leaf, walk_node, walk_last, reads_fill}
use Rattle.modes.proofs.quick.fork.Goals as goal

pub returns-then-g : goal.returns-then-g
returns-then-g c =
    let t = fork_of c.args.a c.args.b c.args.c c.args.d in
    let y : Bytes c.args.s.now = (λ i. (c.type_inv.s i).fits) in
    let z : Bytes c.args.probs.now = (λ i. (c.type_inv.probs i).fits) in
    reads_fill c.args.s.now (tree c.args.probs.now t) 0 0 c.fill.ensures
    (walk_node c.args.s.now c.args.probs.now t y z 24 0 31 0 c.fill.result true c.bit-g.ensures c.if-g.true refl
    (walk_last c.args.s.now c.args.probs.now t y z 17 0 30 2 c.bit-g.result.next c.last.ensures (branch_leaf c.args.c) (branch_leaf c.args.d)))

pub returns : goal.returns
returns c =
    let t = fork_of c.args.a c.args.b c.args.c c.args.d in
    let y : Bytes c.args.s.now = (λ i. (c.type_inv.s i).fits) in
    let z : Bytes c.args.probs.now = (λ i. (c.type_inv.probs i).fits) in
    reads_fill c.args.s.now (tree c.args.probs.now t) 0 0 c.fill.ensures
    (walk_node c.args.s.now c.args.probs.now t y z 24 0 31 0 c.fill.result false c.bit-g.ensures c.if-g.false refl
    (walk_last c.args.s.now c.args.probs.now t y z 17 0 30 1 c.bit-g.result.next c.last-2.ensures (branch_leaf c.args.a) (branch_leaf c.args.b)))
