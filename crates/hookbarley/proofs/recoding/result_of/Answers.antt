use Rattle.numbers.specs.Words.{sym, ◌∙◌}
use Rattle.hookbarley.specs.CallsLaws.{result_done, result_refused}
use Rattle.hookbarley.proofs.recoding.result_of.Goals as goal

pub returns-then-r-ne0 : goal.returns-then-r-ne0
returns-then-r-ne0 c = sym (result_refused _ _ c.if-r-ne0.true)

pub returns : goal.returns
returns c = c.numbers.ensures ∙ sym (result_done _ _ c.if-r-ne0.false)
