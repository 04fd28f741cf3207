-- The explanation of an edge as C sees it (request M-105): a number, the rule and the pair by number, and the two lent memories.
use Rattle.std.specs.Prelude.{◌+◌, ◌&&◌}
use Rattle.numbers.specs.Words.{ℕ, true, false, eqb, List, length, ℤ}
use Rattle.filter.specs.declared.answers.Rule.{Rule}
use Rattle.filter.specs.declared.answers.Rule.TheVariants.{EdgeFailed, Rough, Simple, HighVariance, MacroblockEdge, InnerEdge}
use Rattle.filter.specs.declared.explain.Explanation.{Explanation}
use Rattle.filter.specs.Explain.{explain_of}
use Rattle.samples.specs.FilterCalls.{flag_of}

-- 1 the edge test failed, 2 a pair is not smooth, 3 the simple filter, 4 high variance, 5 a macroblock's edge, 6 an inner edge
abbrev pub rule_number_of : Rule → ℕ
rule_number_of EdgeFailed = 1
rule_number_of (Rough pair) = 2
rule_number_of Simple = 3
rule_number_of HighVariance = 4
rule_number_of MacroblockEdge = 5
rule_number_of InnerEdge = 6

-- the pair that is not smooth, from 1 for p3-p2 to 6 for q1-q0; 0 where the rule names none
abbrev pub pair_number_of : Rule → ℕ
pair_number_of EdgeFailed = 0
pair_number_of (Rough pair) = pair + 1
pair_number_of Simple = 0
pair_number_of HighVariance = 0
pair_number_of MacroblockEdge = 0
pair_number_of InnerEdge = 0

-- what `hookbarley_explain` leaves: its number, rule and pair by number, the samples after, the steps
pub record ExplainCalled : Type 0 where
  pub number : ℕ
  pub rule : ℕ
  pub pair : ℕ
  pub after : List ℕ
  pub steps : List ℤ

-- an explanation, as C sees it
abbrev pub to_explain_called : Explanation → ExplainCalled
to_explain_called x = record { number = 0; rule = rule_number_of x.rule; pair = pair_number_of x.rule; after = x.after; steps = x.steps }

-- eight samples, and room for eight samples and eight steps, else 9
unfoldable pub explain_called_of : List ℕ → (simple edge limit inner threshold : ℕ) → (after : List ℕ) (steps : List ℤ) → ExplainCalled
explain_called_of e simple edge limit inner threshold after steps =
    elim (eqb (length e) 8 && eqb (length after) 8 && eqb (length steps) 8) [
      | true ↦ to_explain_called (explain_of e (flag_of simple) (flag_of edge) limit inner threshold)
      | false ↦ record { number = 9; rule = 0; pair = 0; after = after; steps = steps }
    ]
