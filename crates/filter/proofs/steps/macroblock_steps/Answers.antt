-- `macroblock_steps` meets its contract.
use Rattle.numbers.specs.Words.{ℕ, refl, ◌∙◌, ap, List, [], ◌∷◌, ◌∷≡◌, pos, neg_ℤ, inside_read, wider, Var, is, E, know, ◌⊕◌, ◌⊙◌, lit, shr, v, known, there, w16}
use Rattle.filter.specs.Kernel.{part, sides, macroblock_steps_of}
use Rattle.filter.proofs.steps.macroblock_steps.Goals as goal

abbrev ρ : goal.Start → List Var
ρ s = known (there w16 s.requires tt) ∷ []

-- k times w, with what rounds it, and the part
abbrev times : ℕ → E
times k = k ⊙ v 0

abbrev sum : ℕ → E
sum k = times k ⊕ lit (pos 63)

abbrev of : ℕ → E
of k = shr (sum k) 7

pub sides-requires : goal.sides-requires
sides-requires c = (inside_read (wider (know w16 (ρ c) (of 27) tt) tt), inside_read (wider (know w16 (ρ c) (of 18) tt) tt), inside_read (wider (know w16 (ρ c) (of 9) tt) tt))

pub returns : goal.returns
unfolding part sides macroblock_steps_of
returns c =
    let near = is w16 (ρ c.before) (of 27) tt in
    let next = is w16 (ρ c.before) (of 18) tt in
    let far = is w16 (ρ c.before) (of 9) tt in
    c.sides.ensures ∙ (refl ∷≡ far ∷≡ next ∷≡ near ∷≡ ap neg_ℤ near ∷≡ ap neg_ℤ next ∷≡ ap neg_ℤ far ∷≡ refl ∷≡ refl)
