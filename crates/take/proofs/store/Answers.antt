use Rattle.numbers.specs.Words.{sym, ◌∙◌}
use Rattle.frame.specs.TakeLaws.{stored_not, stored_is}
use Rattle.take.proofs.store.Goals as goal

pub returns-then-header-entries : goal.returns-then-header-entries
returns-then-header-entries c = c.copy_from_slice.ensures.after ∙ sym (stored_is _ _ c.if-header-entries.true)

pub returns-else-header-entries : goal.returns-else-header-entries
returns-else-header-entries c = stored_not _ _ c.if-header-entries.false
