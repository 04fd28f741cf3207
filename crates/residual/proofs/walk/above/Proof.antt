use Rattle.numbers.specs.Words.{ℕ, suc, ◌+◌, arith, ◌≡◌, refl, Bool, lit<, lit≤, rules}
use Rattle.reader.specs.declared.boolean.Reader.{Reader}
use Rattle.reader.specs.declared.trees.Branch.TheVariants as B
use Rattle.reader.specs.Trees.{branch_at_of}
use Rattle.reader.specs.Token.{token_tree, eleven_at}
use Rattle.reader.specs.TokenLaws.{eleven_at_lem}
use Rattle.wide.specs.WideRuns.{Gave, Walking, walking_start, walking_fill, walking_node, walking_leaf, walking_last}
use Rattle.residual.specs.SymbolsLaws.{ranged_fill}
use Rattle.residual.proofs.walk.above.Statement.{statement}
use Rattle.residual.proofs.walk.above.Tie as tie

fill-requires : tie.Need-fill-v-requires
fill-requires c κs = search rules

add-bit : tie.Need-overflow_add-at
add-bit c = search rules

shared-slice-read-bit : tie.Need-bounds-table-at
shared-slice-read-bit c = search rules

bit-requires : tie.Need-bit-a-requires
bit-requires c κs = (c.requires.1.0, ranged_fill _ c.fill-v.ensures c.requires.1.1)

category-requires : tie.Need-category-requires
category-requires c κs = search rules

three : (c : tie.After-bit-a) {E : ℕ × Reader} {lim n j : ℕ} {b : Bool} (m : ℕ) → (Walking c.args.s.now E lim 32 n (eleven_at c.args.table.now c.args.at) token_tree (suc m) 3 c.fill-v.result → c.bit-a.result.on ≡ b → branch_at_of token_tree 3 b ≡ B.Node j → Walking c.args.s.now E lim 25 n (eleven_at c.args.table.now c.args.at) token_tree m j c.bit-a.result.next)
three c m g e f =
    walking_node 24 m (λ i. (c.shared_slice_known-1.given i).fits) (c.shared_slice_known-2-1.given (c.args.at + 3)).fits (eleven_at_lem c.args.table.now c.args.at 3 (lit< tt)) g c.bit-a.ensures.0 e f

four : (c : tie.After-bit-b) {E : ℕ × Reader} {lim n j : ℕ} {b : Bool} (m : ℕ) → (Walking c.args.s.now E lim 25 n (eleven_at c.args.table.now c.args.at) token_tree (suc m) 4 c.bit-a.result.next → c.bit-b.result.on ≡ b → branch_at_of token_tree 4 b ≡ B.Node j → Walking c.args.s.now E lim 18 n (eleven_at c.args.table.now c.args.at) token_tree m j c.bit-b.result.next)
four c m g e f =
    walking_node 17 m (λ i. (c.shared_slice_known-1.given i).fits) (c.shared_slice_known-2-1.given (c.args.at + 4)).fits (eleven_at_lem c.args.table.now c.args.at 4 (lit< tt)) g c.bit-b.ensures.0 e f

four_end : (c : tie.After-bit-b) {E : ℕ × Reader} {lim n x y : ℕ} {b : Bool} (m : ℕ) → (Walking c.args.s.now E lim 25 n (eleven_at c.args.table.now c.args.at) token_tree (suc m) 4 c.bit-a.result.next → c.bit-b.result.on ≡ b → branch_at_of token_tree 4 b ≡ B.Leaf y → x ≡ y → Gave c.args.s.now E lim x c.bit-b.result.next)
four_end c m g e f =
    walking_leaf 17 m (λ i. (c.shared_slice_known-1.given i).fits) (c.shared_slice_known-2-1.given (c.args.at + 4)).fits (eleven_at_lem c.args.table.now c.args.at 4 (lit< tt)) g c.bit-b.ensures.0 e f

returns : tie.Need-returns-then-a
returns c = (
  λ m r v l f.
      walking_last (three c.before.before.before (suc (suc (suc m))) (walking_fill 0 (walking_start (suc (suc (suc (suc m)))) 3 r v l f) c.fill-v.ensures) c.if-a.true refl) (c.category.ensures.0 m) (lit≤ tt) (lit≤ tt),
  ((omega (arith, c.category.ensures.1.0), c.category.ensures.1.0.1), c.category.ensures.1.1),
)

add-bit-2 : tie.Need-overflow_add-at-2
add-bit-2 c = search rules

shared-slice-read-bit-2 : tie.Need-bounds-table-at-2
shared-slice-read-bit-2 c = search rules

bit-requires-2 : tie.Need-bit-b-requires
bit-requires-2 c κs = search rules

last-requires : tie.Need-last-requires
last-requires c κs = search rules

returns-2 : tie.Need-returns-then-b
returns-2 c = (
  λ m r v l f.
      walking_last (four c.before.before.before (suc (suc m)) (three c.before.before.before.before.before.before.before (suc (suc (suc m))) (walking_fill 0 (walking_start (suc (suc (suc (suc m)))) 3 r v l f) c.fill-v.ensures) c.if-a.false refl) c.if-b.true refl) (c.last.ensures.0 (suc m)) (lit≤ tt) (lit≤ tt),
  ((omega (arith, c.last.ensures.1.0), omega (arith, c.last.ensures.1.0)), c.last.ensures.1.1),
)

returns-3 : tie.Need-returns
returns-3 c = (
  λ m r v l f.
      four_end c.before.before (suc (suc m)) (three c.before.before.before.before.before.before (suc (suc (suc m))) (walking_fill 0 (walking_start (suc (suc (suc (suc m)))) 3 r v l f) c.fill-v.ensures) c.if-a.false refl) c.if-b.false refl refl,
  ((omega arith, omega arith), c.bit-b.ensures.1),
)

pub above_spec : {M : Type 1} → statement M
above_spec = tie.close (tie.spec fill-requires add-bit shared-slice-read-bit bit-requires category-requires returns add-bit-2 shared-slice-read-bit-2 bit-requires-2 last-requires returns-2 returns-3)
