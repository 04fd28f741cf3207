-- `upright_pair` meets its contract: eight rows of eight of each plane in and, where anything moved, out.
use Rattle.numbers.specs.Words.{ℕ, arith, ◌≡◌, ◌∙◌, ap, List, length, rules}
use Rattle.deblock.specs.Block.{rows_copied, columns_of}
use Rattle.deblock.specs.BlockLaws.{Part, length_rows, length_sample_rows, row_room, upright_two_lem, upright_end, part_still}
use Rattle.deblock.proofs.sweeps.upright_pair.Statement.{statement}
use Rattle.deblock.proofs.sweeps.upright_pair.Tie as tie

-- the block that is swept
parts : (c : tie.After-sweep) → Part c.args.at c.args.w 1 8 0 c.args.p.now c.columns-c.result × Part c.args.at c.args.w 1 8 8 c.args.q.now c.columns-c.result
parts c =
    upright_two_lem _ _ _ (λ k. (c.slice_known-1.given k).fits) _ (λ k. (c.slice_known-2-1.given k).fits) c.requires.0 c.requires.1 c.requires.2
    (c.columns-c.ensures ∙ ap columns_of (c.copy-2.ensures ∙ ap (λ (z : List ℕ). rows_copied z 64 8 c.args.q.now c.args.at c.args.w 8 8) c.copy.ensures))

copy-requires : tie.Need-copy-requires
copy-requires c κs = λ i h. (omega arith, row_room _ _ 7 8 c.requires.0 i (omega arith))

copy-requires-2 : tie.Need-copy-requires-2
copy-requires-2 c κs =
    let long : length c.copy.new.to ≡ 128 = ap length c.copy.ensures ∙ length_rows _ _ _ _ _ _ _ _ in
    λ i h. (rw long (omega arith), row_room _ _ 7 8 c.requires.1 i (omega arith))

copy-requires-3 : tie.Need-copy-requires-then-sweep
copy-requires-3 c κs = λ i h. (row_room _ _ 7 8 c.requires.0 i (omega arith), rw (c.rows-b.ensures, length_sample_rows) (omega arith))

copy-requires-4 : tie.Need-copy-requires-then-sweep-2
copy-requires-4 c κs = λ i h. (row_room _ _ 7 8 c.requires.1 i (omega arith), rw (c.rows-b.ensures, length_sample_rows) (omega arith))

returns : tie.Need-returns-then-sweep
returns c = (
  upright_end _ _ c.args.g (parts c.before.before.before.before.before.before.before.before.before.before.before.before.before.before).0 c.requires.2 c.sweep.ensures.0 (c.copy-then-sweep.ensures ∙ ap (λ (r : List ℕ). rows_copied c.args.p.now c.args.at c.args.w r 0 8 8 8) c.rows-b.ensures),
  upright_end _ _ c.args.g (parts c.before.before.before.before.before.before.before.before.before.before.before.before.before.before).1 c.requires.2 c.sweep.ensures.0 (c.copy-then-sweep-2.ensures ∙ ap (λ (r : List ℕ). rows_copied c.args.q.now c.args.at c.args.w r 64 8 8 8) c.rows-b.ensures),
)

returns-2 : tie.Need-returns-else-sweep
returns-2 c =
    let still = c.sweep.ensures.1 c.if-sweep.false in
    (part_still _ (parts c.before.before).0 c.sweep.ensures.0 still, part_still _ (parts c.before.before).1 c.sweep.ensures.0 still)

pub upright_pair_spec : {M : Type 1} → statement M
upright_pair_spec = tie.close (tie.spec (λ c. search rules) copy-requires (λ c. search rules) copy-requires-2 (λ c κs. search rules) (λ c. search rules) (λ c κs. search rules) (λ c κs. search rules) (λ c. search rules) copy-requires-3 (λ c. search rules) copy-requires-4 (λ c. search rules) (λ c. search rules) returns (λ c. search rules) (λ c. search rules) returns-2)
