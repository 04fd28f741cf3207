use Rattle.numbers.specs.Words.{ℕ, suc, ◌+◌, arith, ◌≡◌, refl, Bool, lit<, lit≤, rules}
use Rattle.reader.specs.declared.boolean.Reader.{Reader}
use Rattle.reader.specs.declared.trees.Branch.TheVariants as B
use Rattle.reader.specs.Trees.{branch_at_of}
use Rattle.reader.specs.Token.{token_tree, eleven_at}
use Rattle.reader.specs.TokenLaws.{eleven_at_lem}
use Rattle.wide.specs.WideRuns.{Walking, walking_start, walking_node, walking_last}
use Rattle.residual.proofs.walk.category.Statement.{statement}
use Rattle.residual.proofs.walk.category.Tie as tie

add-bit : tie.Need-overflow_add-at
add-bit c = search rules

shared-slice-read-bit : tie.Need-bounds-table-at
shared-slice-read-bit c = search rules

bit-requires : tie.Need-bit-a-requires
bit-requires c κs = search rules

add-bit-2 : tie.Need-overflow_add-at-then-a
add-bit-2 c = search rules

shared-slice-read-bit-2 : tie.Need-bounds-table-at-then-a
shared-slice-read-bit-2 c = search rules

bit-requires-2 : tie.Need-bit-b-requires
bit-requires-2 c κs = search rules

last-requires : tie.Need-last-requires
last-requires c κs = search rules

six : (c : tie.After-bit-a) {E : ℕ × Reader} {lim n j : ℕ} {b : Bool} (m : ℕ) → (Walking c.args.s.now E lim 22 n (eleven_at c.args.table.now c.args.at) token_tree (suc m) 6 c.args.w → c.bit-a.result.on ≡ b → branch_at_of token_tree 6 b ≡ B.Node j → Walking c.args.s.now E lim 15 n (eleven_at c.args.table.now c.args.at) token_tree m j c.bit-a.result.next)
six c m g e f =
    walking_node 14 m (λ i. (c.shared_slice_known-1.given i).fits) (c.shared_slice_known-2-1.given (c.args.at + 6)).fits (eleven_at_lem c.args.table.now c.args.at 6 (lit< tt)) g c.bit-a.ensures.0 e f

eight : (c : tie.After-bit-b) {E : ℕ × Reader} {lim n j : ℕ} {b : Bool} (m : ℕ) → (Walking c.args.s.now E lim 15 n (eleven_at c.args.table.now c.args.at) token_tree (suc m) 8 c.bit-a.result.next → c.bit-b.result.on ≡ b → branch_at_of token_tree 8 b ≡ B.Node j → Walking c.args.s.now E lim 8 n (eleven_at c.args.table.now c.args.at) token_tree m j c.bit-b.result.next)
eight c m g e f =
    walking_node 7 m (λ i. (c.shared_slice_known-1.given i).fits) (c.shared_slice_known-2-1.given (c.args.at + 8)).fits (eleven_at_lem c.args.table.now c.args.at 8 (lit< tt)) g c.bit-b.ensures.0 e f

returns : tie.Need-returns-then-b
returns c = (
  λ m r v l f.
      walking_last (eight c.before.before.before (suc m) (six c.before.before.before.before.before.before.before (suc (suc m)) (walking_start (suc (suc (suc m))) 6 r v l f) c.if-a.true refl) c.if-b.true refl) (c.last.ensures.0 m) (lit≤ tt) (lit≤ tt),
  (omega (arith, c.last.ensures.1.0), c.last.ensures.1.1),
)

last-requires-2 : tie.Need-last-requires-then-a
last-requires-2 c κs = search rules

returns-2 : tie.Need-returns-then-a
returns-2 c = (
  λ m r v l f.
      walking_last (eight c.before.before.before (suc m) (six c.before.before.before.before.before.before.before (suc (suc m)) (walking_start (suc (suc (suc m))) 6 r v l f) c.if-a.true refl) c.if-b.false refl) (c.last-then-a.ensures.0 m) (lit≤ tt) (lit≤ tt),
  (omega (arith, c.last-then-a.ensures.1.0), c.last-then-a.ensures.1.1),
)

last-requires-3 : tie.Need-last-requires-2
last-requires-3 c κs = search rules

returns-3 : tie.Need-returns
returns-3 c = (
  λ m r v l f.
      walking_last (six c.before.before.before (suc (suc m)) (walking_start (suc (suc (suc m))) 6 r v l f) c.if-a.false refl) (c.last-2.ensures.0 (suc m)) (lit≤ tt) (lit≤ tt),
  (omega (arith, c.last-2.ensures.1.0), c.last-2.ensures.1.1),
)

pub category_spec : {M : Type 1} → statement M
category_spec = tie.close (tie.spec add-bit shared-slice-read-bit bit-requires add-bit-2 shared-slice-read-bit-2 bit-requires-2 last-requires returns last-requires-2 returns-2 last-requires-3 returns-3)
