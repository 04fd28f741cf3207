-- What the explanation's call answers, as its code finds it.
use Rattle.std.specs.Prelude.{◌≡◌}
use Rattle.numbers.specs.Words.{ℕ, sym, ◌∙◌, ap, eq-eqb, ne_eqb, List, length, ℤ}
use Rattle.filter.specs.declared.explain.Explanation.{Explanation}
use Rattle.filter.specs.Explain.{explain_of}
use Rattle.samples.specs.FilterCalls.{flag_of}
use Rattle.samples.specs.ExplainCalls.{to_explain_called, rule_number_of, pair_number_of, explain_called_of}

module _ (e : List ℕ) (simple edge limit inner threshold : ℕ) (after : List ℕ) (steps : List ℤ) where
  abbrev Refused : Type 0
  Refused = record { number = 9; rule = 0; pair = 0; after = after; steps = steps } ≡ explain_called_of e simple edge limit inner threshold after steps

  pub explain_samples : (length e ≡ 8 → ⊥) → Refused
  unfolding explain_called_of
  explain_samples h = rw (ne_eqb _ _ h, explain_called_of)

  pub explain_after : length e ≡ 8 → (length after ≡ 8 → ⊥) → Refused
  unfolding explain_called_of
  explain_after g h = rw (eq-eqb _ _ g, ne_eqb _ _ h, explain_called_of)

  pub explain_steps : length e ≡ 8 → length after ≡ 8 → (length steps ≡ 8 → ⊥) → Refused
  unfolding explain_called_of
  explain_steps f g h = rw (eq-eqb _ _ f, eq-eqb _ _ g, ne_eqb _ _ h, explain_called_of)

  pub explain_called : length e ≡ 8 → length after ≡ 8 → length steps ≡ 8
      → {d : List ℕ} {x : Explanation} → d ≡ e → x ≡ explain_of d (flag_of simple) (flag_of edge) limit inner threshold
      → {r p : ℕ} {a : List ℕ} {s : List ℤ} → r ≡ rule_number_of x.rule → p ≡ pair_number_of x.rule → a ≡ x.after → s ≡ x.steps
      → record { number = 0; rule = r; pair = p; after = a; steps = s } ≡ explain_called_of e simple edge limit inner threshold after steps
  unfolding explain_called_of
  explain_called f g h {d} {x} i j k l m n =
      let z : explain_called_of e simple edge limit inner threshold after steps ≡ to_explain_called (explain_of e (flag_of simple) (flag_of edge) limit inner threshold) =
      rw (eq-eqb _ _ f, eq-eqb _ _ g, eq-eqb _ _ h, explain_called_of) in
      (λ t. record { number = 0; rule = k t; pair = l t; after = m t; steps = n t })
      ∙ ap to_explain_called (j ∙ ap (λ (y : List ℕ). explain_of y (flag_of simple) (flag_of edge) limit inner threshold) i) ∙ sym z
