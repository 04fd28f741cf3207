-- `upright` meets its contract: sixteen rows of eight in and, where anything moved, out.
use Rattle.numbers.specs.Words.{ℕ, arith, ◌∙◌, ap, List, rules}
use Rattle.deblock.specs.Block.{rows_copied, columns_of}
use Rattle.deblock.specs.BlockLaws.{Part, row_room, length_sample_rows, upright_one, upright_end, part_still}
use Rattle.deblock.proofs.sweeps.upright.Statement.{statement}
use Rattle.deblock.proofs.sweeps.upright.Tie as tie

-- the block that is swept
part : (c : tie.After-sweep) → Part c.args.at c.args.w 1 16 0 c.args.p.now c.columns-c.result
part c =
    upright_one _ _ _ (λ k. (c.slice_known-1.given k).fits) c.requires.0 c.requires.1 (c.columns-c.ensures ∙ ap columns_of c.copy.ensures)

copy-requires : tie.Need-copy-requires
copy-requires c κs = λ i h. (omega arith, row_room _ _ 15 8 c.requires.0 i (omega arith))

copy-requires-2 : tie.Need-copy-requires-then-sweep
copy-requires-2 c κs = λ i h. (row_room _ _ 15 8 c.requires.0 i (omega arith), rw (c.rows-b.ensures, length_sample_rows) (omega arith))

returns : tie.Need-returns-then-sweep
returns c =
    upright_end _ _ c.args.g (part c.before.before.before.before.before.before.before.before.before) c.requires.1 c.sweep.ensures.0
    (c.copy-then-sweep.ensures ∙ ap (λ (b : List ℕ). rows_copied c.args.p.now c.args.at c.args.w b 0 8 8 16) c.rows-b.ensures)

returns-2 : tie.Need-returns-else-sweep
returns-2 c = part_still _ (part c.before.before) c.sweep.ensures.0 (c.sweep.ensures.1 c.if-sweep.false)

pub upright_spec : {M : Type 1} → statement M
upright_spec = tie.close (tie.spec (λ c. search rules) copy-requires (λ c κs. search rules) (λ c. search rules) (λ c κs. search rules) (λ c κs. search rules) (λ c. search rules) copy-requires-2 (λ c. search rules) returns (λ c. search rules) returns-2)
