use Rattle.numbers.specs.Words.{sym, ◌∙◌, ap, not-false, not-true, List, [], ◌∷◌, Var, is, fits, ◌⊕◌, v, known, there, w32, rules}
use Rattle.header.specs.Levels.{level_deltas}
use Rattle.header.specs.LevelsLaws.{delta_off, delta_on}
use Rattle.header.proofs.Machine.{machine, said}
use Rattle.header.proofs.levels.delta.Statement.{statement}
use Rattle.header.proofs.levels.delta.Tie as tie
use Rattle.header.proofs.levels.delta.Reads as reads
use Rattle.header.proofs.levels.delta.Lts as lts
use Rattle.header.proofs.entries.present.Reads as present-reads

-- the two deltas
abbrev ρ : tie.Start → List Var
ρ c = known (there w32 (c.requires.1.at 22) tt) ∷ known (there w32 (c.requires.1.at 26) tt) ∷ []

shared-slice-copy-out-present : tie.Need-bounds-h-20
shared-slice-copy-out-present c = search rules

present-requires : tie.Need-present-requires
present-requires c κs = search rules

returns : tie.Need-returns-then-not-present
returns c = sym (delta_off _ _ (said _ 20 c.requires.1 c.present.ensures (not-true _ c.if-not-present.true-raw)))

shared-slice-copy-out-result : tie.Need-bounds-h-22
shared-slice-copy-out-result c = search rules

shared-slice-copy-out-result-2 : tie.Need-bounds-h-26
shared-slice-copy-out-result-2 c = search rules

add-result : tie.Need-overflow_add-result
add-result c = fits w32 (ρ c.before.before.before.before.before.before) (v 0 ⊕ v 1) tt

returns-2 : tie.Need-returns-then-small
returns-2 c = is w32 (ρ c.before.before.before.before.before.before) (v 0 ⊕ v 1) tt ∙ sym (delta_on _ _ (said _ 20 c.requires.1 c.present.ensures (not-false _ c.if-not-present.false-raw)) ∙ ap (level_deltas c.args.h.now) c.if-small.true)

shared-slice-copy-out-result-3 : tie.Need-bounds-h-22-2
shared-slice-copy-out-result-3 c = search rules

returns-3 : tie.Need-returns
returns-3 c = machine _ 22 c.requires.1 ∙ sym (delta_on _ _ (said _ 20 c.requires.1 c.present.ensures (not-false _ c.if-not-present.false-raw)) ∙ ap (level_deltas c.args.h.now) c.if-small.false)

pub delta_spec : {M : Type 1} → statement M
delta_spec = tie.close (tie.spec shared-slice-copy-out-present present-requires returns shared-slice-copy-out-result shared-slice-copy-out-result-2 add-result returns-2 shared-slice-copy-out-result-3 returns-3)
