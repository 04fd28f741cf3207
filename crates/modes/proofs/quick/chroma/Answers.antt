use Rattle.numbers.specs.Words.{ℕ, refl, true, false, lit<, not-false, not-true, List, [], ◌∷◌}
use Rattle.reader.specs.ReadingLaws.{Bytes}
use Rattle.modes.specs.Modes.{uv_tree, large_mode_of}
use Rattle.modes.specs.ModesLaws.{each_fact}
use Rattle.modes.proofs.Steps.{walk_node, walk_leaf, walk_last, reads_fill}
use Rattle.modes.proofs.quick.chroma.Goals as goal

abbrev probs : List ℕ
probs = 142 ∷ 114 ∷ 183 ∷ []

odds : Bytes probs
odds = each_fact 256 probs (lit< tt) refl

pub returns-then-not-a : goal.returns-then-not-a
returns-then-not-a c =
    let y : Bytes c.args.s.now = (λ i. (c.type_inv.s i).fits) in
    reads_fill c.args.s.now (large_mode_of true) 0 0 c.fill.ensures
    (walk_leaf c.args.s.now probs uv_tree y odds 24 0 31 0 c.fill.result false c.bit-a.ensures (not-true _ c.if-not-a.true) refl)

pub returns-then-not-b : goal.returns-then-not-b
returns-then-not-b c =
    let y : Bytes c.args.s.now = (λ i. (c.type_inv.s i).fits) in
    reads_fill c.args.s.now (large_mode_of true) 0 0 c.fill.ensures
    (walk_node c.args.s.now probs uv_tree y odds 24 0 31 0 c.fill.result true c.bit-a.ensures (not-false _ c.if-not-a.false) refl
    (walk_leaf c.args.s.now probs uv_tree y odds 17 0 30 1 c.bit-a.result.next false c.bit-b.ensures (not-true _ c.if-not-b.true) refl))

pub returns : goal.returns
returns c =
    let y : Bytes c.args.s.now = (λ i. (c.type_inv.s i).fits) in
    reads_fill c.args.s.now (large_mode_of true) 0 0 c.fill.ensures
    (walk_node c.args.s.now probs uv_tree y odds 24 0 31 0 c.fill.result true c.bit-a.ensures (not-false _ c.if-not-a.false) refl
    (walk_node c.args.s.now probs uv_tree y odds 17 0 30 1 c.bit-a.result.next true c.bit-b.ensures (not-false _ c.if-not-b.false) refl
    (walk_last c.args.s.now probs uv_tree y odds 10 0 29 2 c.bit-b.result.next c.last.ensures refl refl)))
