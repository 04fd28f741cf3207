use Rattle.numbers.specs.Words.{ℕ, ◌+◌, arith, refl, ap, List}
use Rattle.wide.specs.WideRuns.{reads_as}
use Rattle.modes.specs.Modes.{b_tree, tree}
use Rattle.modes.specs.TableLaws.{table_long, part_is}
use Rattle.modes.proofs.quick.block.Goals as goal

pub slice_bounds-small_mode-end : goal.slice_bounds-small_mode-end
slice_bounds-small_mode-end c = omega (arith, table_long c.requires.all_value)

pub returns : goal.returns
returns c = (
  reads_as c.args.s.now 0 8
      (ap (λ (ps : List ℕ). tree ps b_tree)
      (part_is c.args.top c.args.left c.requires.all_value c.requires.top_bound.0 c.requires.top_bound.1 c.place-at.result (c.place-at.result + 9) c.place-at.ensures.0 refl))
      c.small_mode.ensures.0,
  c.small_mode.ensures.1,
)
