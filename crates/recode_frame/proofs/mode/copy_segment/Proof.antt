use Rattle.numbers.specs.Words.{arith, ◌≡◌, not-false, not-true, length, rules}
use Rattle.modes.specs.Modes.{seg_tree}
use Rattle.recode_frame.specs.ModeCopies.{segment_not, segment_read}
use Rattle.recode_frame.specs.TreeLaws.{segment_table}
use Rattle.recode_frame.proofs.mode.copy_segment.Statement.{statement}
use Rattle.recode_frame.proofs.mode.copy_segment.Tie as tie

returns : tie.Need-returns-then-not-a
returns c = segment_not c.args.a (not-true _ c.if-not-a.true)

slice-aggregate-copy-tree : tie.Need-slice_bounds-copy_tree-end
slice-aggregate-copy-tree c = search rules

long : (c : tie.After-copy_tree-arg-2-1) → length c.args.a.map_probabilities ≡ 3
long c = search rules

copy-tree-requires : tie.Need-copy_tree-c-requires
copy-tree-requires c κs = ((segment_table (long c.before)).leading, (omega (arith, long c.before), omega (arith, long c.before)))

same_length : tie.Need-shape_of-out
same_length c = search rules

returns-2 : tie.Need-returns
returns-2 c = segment_read c.args.a (not-false _ c.if-not-a.false) (c.copy_tree-c.ensures.0 seg_tree (segment_table (long c.before.before.before.before.before)).led)

pub copy_segment_spec : {M : Type 1} → statement M
copy_segment_spec = tie.close (tie.spec returns slice-aggregate-copy-tree copy-tree-requires same_length returns-2)
