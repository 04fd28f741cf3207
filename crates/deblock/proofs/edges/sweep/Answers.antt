-- `sweep` meets its contract: where no rule acts nothing is done.
use Rattle.numbers.specs.Words.{refl, sym, ◌∙◌, ap, Bool, false, never, List, get_or}
use Rattle.deblock.specs.BlockLaws.{block_still}
use Rattle.deblock.proofs.edges.sweep.Goals as goal

pub returns-then-any : goal.returns-then-any
returns-then-any c = record { t_after = c.filtered.ensures; t_unchanged = λ e. absurd (never refl e) }

pub returns : goal.returns
returns c = record { t_after = sym (block_still _ _ (λ k. (c.slice_known-1.given k).fits) (λ i h. ap (λ (m : List Bool). get_or m i false) (sym c.acting-m.ensures) ∙ c.any.ensures c.if-any.false i h)); t_unchanged = λ e. refl }
