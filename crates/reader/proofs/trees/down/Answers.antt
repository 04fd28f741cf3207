use Rattle.numbers.specs.Words.{sym, ◌∙◌, ap, Err, rules, ◌≡◌}
use Rattle.reader.specs.ReadingLaws.{answered, from_read, unread_missing}
use Rattle.reader.specs.TreesLaws.{down_missing, down_got, at_inside}
use Rattle.reader.proofs.trees.down.Goals as goal

pub returns-in_err-bit : goal.returns-in_err-bit
returns-in_err-bit c = let h : c.from_residual.result ≡ Err c.in_err-bit.field-0.0 = search rules in h ∙ down_missing _ _ _ _ _ (answered _ _ _ c.read.ensures ∙ ap from_read c.in_err-bit.was) (unread_missing _ (sym c.in_err-bit.was ∙ c.read.ensures))

pub branch_at-requires : goal.branch_at-requires
branch_at-requires c = rw (c.at.ensures, c.requires.tree.size) (at_inside _ _ c.in_ok-bit.bit c.requires.i_bound)

pub returns : goal.returns
returns c = down_got _ _ _ _ _ (answered _ _ _ c.read.ensures ∙ ap from_read c.in_ok-bit.was) c.at.ensures c.branch_at.ensures
