use Rattle.numbers.specs.Words.{ℕ, ◌+◌, arith, refl, ◌∙◌, ap, lit≤, List}
use Rattle.reader.specs.Trees.{tree_of}
use Rattle.reader.specs.TreesLaws.{tree_fixed}
use Rattle.modes.specs.Modes.{tree, b_tree}
use Rattle.modes.specs.ModesLaws.{byte_leaves_lem, block_within}
use Rattle.modes.specs.Table.{probabilities}
use Rattle.modes.specs.TableLaws.{probabilities_length, table_long, part_is}
use Rattle.reader.specs.Reading.{to_read}
use Rattle.modes.proofs.Careful.{told_as}
use Rattle.modes.proofs.small.block.Goals as goal

pub slice_bounds-coded-end : goal.slice_bounds-coded-end
slice_bounds-coded-end c = omega (arith, table_long c.requires.all_value)

pub coded-requires : goal.coded-requires
coded-requires c =
    record {
      valid = c.requires.valid;
      t_value = ap (λ (ps : List ℕ). tree_of ps b_tree 0) (part_is c.args.top c.args.left c.requires.all_value c.requires.top_bound.0 c.requires.top_bound.1 c.place-at.result (c.place-at.result + 9) c.place-at.ensures.0 refl)
          ∙ tree_fixed (probabilities c.args.top c.args.left) b_tree 0 (rw (probabilities_length c.args.top c.args.left) (lit≤ tt)) refl;
      t_value_2 = byte_leaves_lem b_tree refl;
    }

pub returns : goal.returns
returns c =
    told_as to_read c.args.s.now c.args.r
    (ap (λ (ps : List ℕ). tree ps b_tree) (part_is c.args.top c.args.left c.requires.all_value c.requires.top_bound.0 c.requires.top_bound.1 c.place-at.result (c.place-at.result + 9) c.place-at.ensures.0 refl))
    (block_within c.args.top c.args.left)
    c.coded.ensures
