-- `rule` meets its contract: each way out has the tests that lead to its rule.
use Rattle.numbers.specs.Words.{◌≡◌, sym, ◌∙◌, ap, true, cond, not-false, not-true, rules}
use Rattle.filter.specs.Kernel.{Rule, Rough, HighVariance, MacroblockEdge, InnerEdge, samples_across, within_limit_of, rule_of}
use Rattle.filter.specs.KernelLaws.{rule_edge_failed, rule_simple, rule_rough, rule_smooth}
use Rattle.filter.proofs.rules.rule.Statement.{statement}
use Rattle.filter.proofs.rules.rule.Tie as tie

-- the rule of the arguments
abbrev here : tie.Start → Rule
here s = let a = s.args in rule_of (samples_across a.e.now) a.simple a.edge a.limit a.inner a.threshold

-- the edge test held
within : (c : tie.Else-not-within_limit) → within_limit_of (samples_across c.args.e.now) c.args.limit ≡ true
within c = sym c.within_limit.ensures ∙ not-false _ c.if-not-within_limit.false-raw

-- and the six pairs are smooth
smooth : (c : tie.After-high_variance) → here c.before.before.before.before.before.before ≡ cond c.high_variance.result HighVariance (cond c.args.edge MacroblockEdge InnerEdge)
smooth c =
    rule_smooth _ _ _ _ _ _ (within c.before.before.before.before) c.if-simple.false (rw c.rough-pair.ensures at c.if-pair-lt6.false)
    ∙ rw c.high_variance.ensures

returns : tie.Need-returns-then-not-within_limit
returns c = sym (rule_edge_failed _ _ _ _ _ _ (sym c.within_limit.ensures ∙ not-true _ c.if-not-within_limit.true-raw))

returns-2 : tie.Need-returns-then-simple
returns-2 c = sym (rule_simple _ _ _ _ _ _ (within c.before) c.if-simple.true)

returns-3 : tie.Need-returns-then-pair-lt6
returns-3 c = ap Rough c.rough-pair.ensures ∙ sym (rule_rough _ _ _ _ _ _ (within c.before.before.before) c.if-simple.false (rw c.rough-pair.ensures at c.if-pair-lt6.true))

returns-4 : tie.Need-returns-then-high_variance
returns-4 c = sym (smooth c.before ∙ rw c.if-high_variance.true)

returns-5 : tie.Need-returns-then-edge
returns-5 c = sym (smooth c.before.before ∙ rw (c.if-high_variance.false, c.if-edge.true))

returns-6 : tie.Need-returns-else-edge
returns-6 c = sym (smooth c.before.before ∙ rw (c.if-high_variance.false, c.if-edge.false))

pub rule_spec : {M : Type 1} → statement M
rule_spec = tie.close (tie.spec (λ c κs. search rules) returns returns-2 (λ c κs. search rules) returns-3 (λ c κs. search rules) returns-4 returns-5 returns-6)
