use Rattle.numbers.specs.Words.{sym, ◌∙◌, ap, not-false, not-true}
use Rattle.choices.specs.Choices.{told_by}
use Rattle.choices.specs.ChoicesLaws.{stop_side, stop_count, stop_entries, stop_lengths, stop_partitions, stop_none, lengths_sizes, lengths_header, lengths_both}
use Rattle.choices.proofs.checks.refusal.Goals as goal

pub returns-then-not-sides_fine : goal.returns-then-not-sides_fine
returns-then-not-sides_fine c = ap told_by (stop_side _ _ (sym c.sides_fine.ensures ∙ not-true _ c.if-not-sides_fine.true-raw))

pub returns-then-not-count_fine : goal.returns-then-not-count_fine
returns-then-not-count_fine c = ap told_by (stop_count _ _ (sym c.sides_fine.ensures ∙ not-false _ c.if-not-sides_fine.false-raw) (sym c.count_fine.ensures ∙ not-true _ c.if-not-count_fine.true-raw))

pub returns-then-not-entries_fine : goal.returns-then-not-entries_fine
returns-then-not-entries_fine c = ap told_by (stop_entries _ _ (sym c.sides_fine.ensures ∙ not-false _ c.if-not-sides_fine.false-raw) (sym c.count_fine.ensures ∙ not-false _ c.if-not-count_fine.false-raw) (sym c.entries_fine.ensures ∙ not-true _ c.if-not-entries_fine.true-raw))

pub returns-then-not-sizes_fine : goal.returns-then-not-sizes_fine
returns-then-not-sizes_fine c = ap told_by (stop_lengths _ _ (sym c.sides_fine.ensures ∙ not-false _ c.if-not-sides_fine.false-raw) (sym c.count_fine.ensures ∙ not-false _ c.if-not-count_fine.false-raw) (sym c.entries_fine.ensures ∙ not-false _ c.if-not-entries_fine.false-raw) (lengths_sizes _ _ (sym c.sizes_fine.ensures ∙ not-true _ c.if-not-sizes_fine.true-raw)))

pub returns-then-header-ne-ENTRY_COUNT : goal.returns-then-header-ne-ENTRY_COUNT
returns-then-header-ne-ENTRY_COUNT c = ap told_by (stop_lengths _ _ (sym c.sides_fine.ensures ∙ not-false _ c.if-not-sides_fine.false-raw) (sym c.count_fine.ensures ∙ not-false _ c.if-not-count_fine.false-raw) (sym c.entries_fine.ensures ∙ not-false _ c.if-not-entries_fine.false-raw) (lengths_header _ _ c.if-header-ne-ENTRY_COUNT.true))

pub returns-then-not-partitions_fine : goal.returns-then-not-partitions_fine
returns-then-not-partitions_fine c = ap told_by (stop_partitions _ _ (sym c.sides_fine.ensures ∙ not-false _ c.if-not-sides_fine.false-raw) (sym c.count_fine.ensures ∙ not-false _ c.if-not-count_fine.false-raw) (sym c.entries_fine.ensures ∙ not-false _ c.if-not-entries_fine.false-raw) (lengths_both _ _ (sym c.sizes_fine.ensures ∙ not-false _ c.if-not-sizes_fine.false-raw) c.if-header-ne-ENTRY_COUNT.false) (sym c.partitions_fine.ensures ∙ not-true _ c.if-not-partitions_fine.true-raw))

pub returns : goal.returns
returns c = ap told_by (stop_none _ _ (sym c.sides_fine.ensures ∙ not-false _ c.if-not-sides_fine.false-raw) (sym c.count_fine.ensures ∙ not-false _ c.if-not-count_fine.false-raw) (sym c.entries_fine.ensures ∙ not-false _ c.if-not-entries_fine.false-raw) (lengths_both _ _ (sym c.sizes_fine.ensures ∙ not-false _ c.if-not-sizes_fine.false-raw) c.if-header-ne-ENTRY_COUNT.false) (sym c.partitions_fine.ensures ∙ not-false _ c.if-not-partitions_fine.false-raw))
