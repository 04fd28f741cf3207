use Rattle.numbers.specs.Words.{sym, ◌∙◌, not-false, not-true, List, [], ◌∷◌, Var, is, fits, ◌⊕◌, v, known, there, w32, rules}
use Rattle.header.proofs.Machine.{machine, said}
use Rattle.header.specs.OwnLaws.{segmented_base, segmented_own, segmented_sum}
use Rattle.header.proofs.own.segmented.Statement.{statement}
use Rattle.header.proofs.own.segmented.Tie as tie
use Rattle.header.proofs.own.segmented.Reads as reads
use Rattle.header.proofs.own.segmented.Lts as lts
use Rattle.header.proofs.entries.present.Reads as present-reads

-- the base, and the segment's own
abbrev ρ : tie.Start → List Var
ρ c = known (there w32 (c.requires.1.at c.args.base) tt) ∷ known (there w32 (c.requires.1.at c.args.own) tt) ∷ []

shared-slice-copy-out-present : tie.Need-bounds-h-2
shared-slice-copy-out-present c = search rules

present-requires : tie.Need-present-requires
present-requires c κs = search rules

mul-result : tie.Need-offset_bounds-h-base
mul-result c = search rules

shared-slice-copy-out-result : tie.Need-bounds-h-base
shared-slice-copy-out-result c = search rules

returns : tie.Need-returns-then-not-present
returns c = machine _ _ c.requires.1 ∙ sym (segmented_base _ _ _ (said _ 2 c.requires.1 c.present.ensures (not-true _ c.if-not-present.true-raw)))

shared-slice-copy-out-present-2 : tie.Need-bounds-h-5
shared-slice-copy-out-present-2 c = search rules

present-requires-2 : tie.Need-present-requires-2
present-requires-2 c κs = search rules

mul-result-2 : tie.Need-offset_bounds-h-own
mul-result-2 c = search rules

shared-slice-copy-out-result-2 : tie.Need-bounds-h-own
shared-slice-copy-out-result-2 c = search rules

returns-2 : tie.Need-returns-then-present
returns-2 c = machine _ _ c.requires.1 ∙ sym (segmented_own _ _ _ (said _ 2 c.requires.1 c.present.ensures (not-false _ c.if-not-present.false-raw)) (said _ 5 c.requires.1 c.present-2.ensures c.if-present.true))

mul-result-3 : tie.Need-offset_bounds-h-base-2
mul-result-3 c = search rules

shared-slice-copy-out-result-3 : tie.Need-bounds-h-base-2
shared-slice-copy-out-result-3 c = search rules

mul-result-4 : tie.Need-offset_bounds-h-own-2
mul-result-4 c = search rules

shared-slice-copy-out-result-4 : tie.Need-bounds-h-own-2
shared-slice-copy-out-result-4 c = search rules

add-result : tie.Need-overflow_add-result
add-result c = fits w32 (ρ c.before.before.before.before.before.before.before.before) (v 0 ⊕ v 1) tt

returns-3 : tie.Need-returns
returns-3 c = is w32 (ρ c.before.before.before.before.before.before.before.before) (v 0 ⊕ v 1) tt ∙ sym (segmented_sum _ _ _ (said _ 2 c.requires.1 c.present.ensures (not-false _ c.if-not-present.false-raw)) (said _ 5 c.requires.1 c.present-2.ensures c.if-present.false))

pub segmented_spec : {M : Type 1} → statement M
segmented_spec = tie.close (tie.spec shared-slice-copy-out-present present-requires mul-result shared-slice-copy-out-result returns shared-slice-copy-out-present-2 present-requires-2 mul-result-2 shared-slice-copy-out-result-2 returns-2 mul-result-3 shared-slice-copy-out-result-3 mul-result-4 shared-slice-copy-out-result-4 add-result returns-3)
