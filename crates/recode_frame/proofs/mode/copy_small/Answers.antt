use Rattle.numbers.specs.Words.{◌+◌, ◌-◌, ◌*◌, arith, ◌≡◌, refl, ◌∙◌, ap, lit<, length, take, drop}
use Rattle.modes.specs.Modes.{b_tree}
use Rattle.modes.specs.Table.{probabilities}
use Rattle.modes.specs.TableLaws.{probabilities_length, table_long, part_is}
use Rattle.recode_frame.specs.ModeCopies.{block_copied_lem}
use Rattle.recode_frame.specs.TreeLaws.{small_table}
use Rattle.recode_frame.proofs.mode.copy_small.Goals as goal

pub slice_bounds-copy_tree-end : goal.slice_bounds-copy_tree-end
slice_bounds-copy_tree-end c = omega (arith, table_long c.requires.all_value)

pub copy_tree-requires : goal.copy_tree-requires
copy_tree-requires c =
    let k = (c.from.result * 10 + c.from-2.result) * 9 in
    let f : k ≡ (c.args.up * 10 + c.args.by) * 9 = λ i. ((c.from.ensures i) * 10 + (c.from-2.ensures i)) * 9 in
    let e : take (k + 9 - k) (drop k c.args.all.now) ≡ probabilities c.args.up c.args.by = part_is c.args.up c.args.by c.requires.all_value c.requires.up_bound.0 c.requires.up_bound.1 k (k + 9) f refl in
    let n : length (take (k + 9 - k) (drop k c.args.all.now)) ≡ 9 = ap length e ∙ probabilities_length c.args.up c.args.by in
    record { leading = (small_table n).leading; probs_nonzero = (omega (arith, n), omega (arith, n)) }

pub returns : goal.returns
returns c =
    let k = (c.from.result * 10 + c.from-2.result) * 9 in
    let f : k ≡ (c.args.up * 10 + c.args.by) * 9 = λ i. ((c.from.ensures i) * 10 + (c.from-2.ensures i)) * 9 in
    let e : take (k + 9 - k) (drop k c.args.all.now) ≡ probabilities c.args.up c.args.by = part_is c.args.up c.args.by c.requires.all_value c.requires.up_bound.0 c.requires.up_bound.1 k (k + 9) f refl in
    let n : length (take (k + 9 - k) (drop k c.args.all.now)) ≡ 9 = ap length e ∙ probabilities_length c.args.up c.args.by in
    (block_copied_lem c.args.up c.args.by e (c.copy_tree.ensures.0 b_tree (small_table n).led), c.copy_tree.ensures.1 10 (lit< tt) (small_table n).leaves)
