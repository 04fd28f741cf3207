use Rattle.numbers.specs.Words.{refl, ◌∙◌, lit<, lit≤}
use Rattle.modes.specs.Modes.{uv_tree}
use Rattle.recode.specs.Copies.{ask_copies}
use Rattle.recode_frame.specs.ModeCopies.{modes_copied}
use Rattle.recode_frame.specs.TreeLaws.{chroma_table}
use Rattle.recode_frame.proofs.mode.copy_modes.Goals as goal

pub copy_luma-luma-requires : goal.copy_luma-luma-requires
copy_luma-luma-requires c = c.requires

pub copy_tree-chroma-requires : goal.copy_tree-chroma-requires
copy_tree-chroma-requires c = record { leading = (chroma_table refl).leading; probs_nonzero = (lit< tt, lit≤ tt) }

pub shape_of-out : goal.shape_of-out
shape_of-out c = c.copy_tree-chroma.auto.out ∙ c.copy_luma-luma.auto.out ∙ c.ask-large.auto.out ∙ c.copy_skip-skip.auto.out ∙ c.copy_segment-segment.auto.out

pub returns : goal.returns
returns c = (modes_copied _ _ c.args.a c.copy_segment-segment.ensures c.copy_skip-skip.ensures (ask_copies (lit< tt) c.ask-large.ensures) c.copy_luma-luma.ensures.0 (c.copy_tree-chroma.ensures.0 uv_tree (chroma_table {n = 3} refl).led), c.copy_luma-luma.ensures.1)
