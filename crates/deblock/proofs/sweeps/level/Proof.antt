-- `level` meets its contract: eight rows of sixteen in and, where anything moved, out.
use Rattle.numbers.specs.Words.{arith, rules}
use Rattle.deblock.specs.BlockLaws.{Part, row_room, swept_long, level_one_lem, level_end, part_still}
use Rattle.deblock.proofs.sweeps.level.Statement.{statement}
use Rattle.deblock.proofs.sweeps.level.Tie as tie

-- the block that is swept
part : (c : tie.After-sweep) → Part c.args.at 1 c.args.w 16 0 c.args.p.now c.copy.new.to
part c =
    level_one_lem _ _ _ (λ k. (c.slice_known-1.given k).fits) c.requires.0 c.requires.1 c.copy.ensures

copy-requires : tie.Need-copy-requires
copy-requires c κs = λ i h. (omega arith, row_room _ _ 7 16 c.requires.0 i (omega arith))

copy-requires-2 : tie.Need-copy-requires-then-sweep
copy-requires-2 c κs = λ i h. (row_room _ _ 7 16 c.requires.0 i (omega arith), rw (swept_long _ (part c.before.before.before.before) c.sweep.ensures.0) (omega arith))

returns : tie.Need-returns-then-sweep
returns c = level_end _ _ _ (part c.before.before.before.before.before.before.before) c.requires.1 c.sweep.ensures.0 c.copy-then-sweep.ensures

returns-2 : tie.Need-returns-else-sweep
returns-2 c = part_still _ (part c.before.before) c.sweep.ensures.0 (c.sweep.ensures.1 c.if-sweep.false)

pub level_spec : {M : Type 1} → statement M
level_spec = tie.close (tie.spec (λ c. search rules) copy-requires (λ c. search rules) (λ c κs. search rules) (λ c. search rules) copy-requires-2 (λ c. search rules) returns (λ c. search rules) returns-2)
