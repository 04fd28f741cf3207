-- `common_steps` meets its contract.
use Rattle.numbers.specs.Words.{refl, ◌∙◌, ap, List, [], ◌∷◌, ◌∷≡◌, pos, neg_ℤ, num, inside, inside_read, wider, Var, is, ◌⊕◌, lit, v, known, there, answered, w16}
use Rattle.filter.specs.Kernel.{eighth, sides, common_steps_of}
use Rattle.filter.specs.KernelLaws.{eighth_in}
use Rattle.filter.proofs.steps.common_steps.Goals.{Start, After-eighth, After-eighth-2}
use Rattle.filter.proofs.steps.common_steps.Goals as goal

abbrev ρ : Start → List Var
ρ s = known (there w16 s.requires tt) ∷ []

-- what p0 and q0 move by
abbrev p : After-eighth → Var
p c = known (answered w16 (c.eighth.ensures ∙ ap eighth (is w16 (ρ c.before) (v 0 ⊕ lit (pos 3)) tt)) (eighth_in _) tt)

abbrev q : After-eighth-2 → Var
q c = known (answered w16 (c.eighth-2.ensures ∙ ap eighth (is w16 (ρ c.before.before) (v 0 ⊕ lit (pos 4)) tt)) (eighth_in _) tt)

pub sides-requires : goal.sides-requires
sides-requires c = let none = inside (wider (num (pos 0)) tt) in (inside_read (wider (q c).is tt), none, none)

pub returns : goal.returns
unfolding sides common_steps_of
returns c = c.sides.ensures ∙ (refl ∷≡ refl ∷≡ refl ∷≡ (p c.before.before).is.eq ∷≡ ap neg_ℤ (q c.before).is.eq ∷≡ refl ∷≡ refl ∷≡ refl ∷≡ refl)
