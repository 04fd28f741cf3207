use Rattle.samples.specs.ExplainCallsLaws.{explain_samples, explain_after, explain_steps, explain_called}
use Rattle.numbers.specs.Words.{rules}
use Rattle.samples.proofs.explaining.explained.Goals as goal

pub returns-then-samples-ne8 : goal.returns-then-samples-ne8
returns-then-samples-ne8 c = explain_samples _ _ _ _ _ _ _ _ c.if-samples-ne8.true

pub returns-then-after-ne8 : goal.returns-then-after-ne8
returns-then-after-ne8 c = explain_after _ _ _ _ _ _ _ _ c.if-samples-ne8.false c.if-after-ne8.true

pub returns-then-steps-ne8 : goal.returns-then-steps-ne8
returns-then-steps-ne8 c = explain_steps _ _ _ _ _ _ _ _ c.if-samples-ne8.false c.if-after-ne8.false c.if-steps-ne8.true

pub returns : goal.returns
returns c =
    explain_called _ _ _ _ _ _ _ _ (search rules) (search rules) (search rules) c.eight_samples-before.ensures c.explain-x.ensures
    c.rule_number.ensures c.pair_number.ensures c.put_samples.ensures c.put_steps.ensures
