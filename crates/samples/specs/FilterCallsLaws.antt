-- What the filter's calls answer, as their code finds it.
use Rattle.std.specs.Prelude.{◌≡◌}
use Rattle.numbers.specs.Words.{ℕ, sym, ◌∙◌, ap, eq-eqb, ne_eqb, List, length, Result}
use Rattle.filter.specs.Kernel.{filter_of}
use Rattle.macroblock.specs.Macroblock.{Planes}
use Rattle.deblock.specs.declared.checks.DeblockError.{DeblockError}
use Rattle.deblock.specs.Deblock as Deblock
use Rattle.deblock.specs.Deblock.{DeblockAnswer, deblock_of}
use Rattle.samples.specs.FilterCalls.{to_deblock_called, deblock_called_of, flag_of, filtered_of}

pub deblock_called : (d : Planes) (s : List ℕ) (w h simple : ℕ) {n : ℕ} {a : Result Unit DeblockError} {p : Planes} → n ≡ Deblock.deblock_number_of a
    → ◌≡◌ {A = DeblockAnswer} (record { answer = a; planes = p }) (deblock_of d s w h (flag_of simple)) → record { number = n; planes = p } ≡ deblock_called_of d s w h simple
unfolding deblock_called_of
deblock_called d s w h simple {n} {a} {p} e f = ap (λ (k : ℕ). record { number = k; planes = p }) e ∙ ap to_deblock_called f

module _ (e : List ℕ) (simple edge limit inner threshold : ℕ) where
  pub filtered_refused : (length e ≡ 8 → ⊥) → record { number = 9; samples = e } ≡ filtered_of e simple edge limit inner threshold
  unfolding filtered_of
  filtered_refused h = rw (ne_eqb _ _ h, filtered_of)

  pub filtered_is : length e ≡ 8 → {a b c : List ℕ} → a ≡ e → b ≡ filter_of a (flag_of simple) (flag_of edge) limit inner threshold → c ≡ b → record { number = 0; samples = c } ≡ filtered_of e simple edge limit inner threshold
  unfolding filtered_of
  filtered_is h {a} {b} {c} f g k =
      let z : filtered_of e simple edge limit inner threshold ≡ record { number = 0; samples = filter_of e (flag_of simple) (flag_of edge) limit inner threshold } = rw (eq-eqb _ _ h, filtered_of) in
      ap (λ (l : List ℕ). record { number = 0; samples = l }) (k ∙ g ∙ ap (λ (l : List ℕ). filter_of l (flag_of simple) (flag_of edge) limit inner threshold) f) ∙ sym z
