-- `walsh_line` meets its contract: each sum and difference fits 32 bits.
use Rattle.numbers.specs.Words.{ℕ, refl, List, [], ◌∷◌, ◌∷≡◌, Var, is, E, fits, ◌⊕◌, ◌⊖◌, v, known, there, w32, rules}
use Rattle.transform.specs.Transform.{pass_of}
use Rattle.transform.proofs.walsh_line.Statement.{statement}
use Rattle.transform.proofs.walsh_line.Tie as tie

-- a, b, c, d and bias
abbrev ρ : tie.After-d-1 → List Var
ρ p =
    let r : ℕ → Var = λ i. known (there w32 (p.requires.0.at i) tt) in
    r 0 ∷ r 1 ∷ r 2 ∷ r 3 ∷ known (there w32 p.requires.1 tt) ∷ []

abbrev a1 : E
a1 = v 0 ⊕ v 3 ⊕ v 4

abbrev b1 : E
b1 = v 1 ⊕ v 2

abbrev c1 : E
c1 = v 1 ⊖ v 2

abbrev d1 : E
d1 = v 0 ⊖ v 3 ⊕ v 4

returns : tie.Need-returns
unfolding pass_of
returns p = is w32 (ρ p) (a1 ⊕ b1) tt ∷≡ is w32 (ρ p) (d1 ⊕ c1) tt ∷≡ is w32 (ρ p) (a1 ⊖ b1) tt ∷≡ is w32 (ρ p) (d1 ⊖ c1) tt ∷≡ refl

pub walsh_line_spec : {M : Type 1} → statement M
walsh_line_spec = tie.close (tie.spec (λ p. search rules) (λ p. search rules) (λ p. search rules) (λ p. search rules) (λ p. fits w32 (ρ p) (v 0 ⊕ v 3) tt) (λ p. fits w32 (ρ p) a1 tt) (λ p. fits w32 (ρ p) b1 tt) (λ p. fits w32 (ρ p) c1 tt) (λ p. fits w32 (ρ p) (v 0 ⊖ v 3) tt) (λ p. fits w32 (ρ p) d1 tt) (λ p. fits w32 (ρ p) (a1 ⊕ b1) tt) (λ p. fits w32 (ρ p) (d1 ⊕ c1) tt) (λ p. fits w32 (ρ p) (a1 ⊖ b1) tt) (λ p. fits w32 (ρ p) (d1 ⊖ c1) tt) returns)
