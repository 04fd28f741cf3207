-- `sides` meets its contract.
use Rattle.numbers.specs.Words.{◌≡◌, refl, ◌∙◌, List, [], ◌∷◌, ◌∷≡◌, ℤ, pos, negsuc, neg_ℤ, ◌+ℤ◌, +ℤ_idl, In, round, Var, is, E, ◌⊖◌, lit, v, known, there, any, w16}
use Rattle.filter.specs.Kernel as kernel
use Rattle.filter.proofs.steps.sides.Goals as goal

-- a step of the q side, taken off
abbrev off : E
off = lit (pos 0) ⊖ v 0

abbrev ρ : {q : ℤ} → In (negsuc 127) (pos 127) q → List Var
ρ i = known (there w16 i tt) ∷ []

taken : {q : ℤ} → In (negsuc 127) (pos 127) q → round w16 (pos 0 +ℤ neg_ℤ (round w16 q)) ≡ neg_ℤ q
taken {q} i = is w16 (ρ i) off tt ∙ +ℤ_idl (neg_ℤ q)

pub returns : goal.returns
unfolding kernel.sides
returns c =
    refl ∷≡ (any w16 c.ranges.p2).eq ∷≡ (any w16 c.ranges.p1).eq ∷≡ (any w16 c.ranges.p0).eq
    ∷≡ taken c.requires.0 ∷≡ taken c.requires.1 ∷≡ taken c.requires.2 ∷≡ refl ∷≡ refl
