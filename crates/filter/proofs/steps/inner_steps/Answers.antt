-- `inner_steps` meets its contract.
use Rattle.numbers.specs.Words.{refl, ◌∙◌, ap, List, [], ◌∷◌, ◌∷≡◌, pos, neg_ℤ, num, inside, inside_read, wider, Var, is, E, know, fits, ◌⊕◌, lit, shr, v, known, there, answered, w16}
use Rattle.filter.specs.Kernel.{eighth, half, sides, inner_steps_of}
use Rattle.filter.specs.KernelLaws.{eighth_in}
use Rattle.filter.proofs.steps.inner_steps.Goals.{Start, After-eighth, After-eighth-near}
use Rattle.filter.proofs.steps.inner_steps.Goals as goal

abbrev ρ : Start → List Var
ρ s = known (there w16 s.requires tt) ∷ []

-- what q0 and p0 move by, and p1 and q1
abbrev q : After-eighth-near → Var
q c = known (answered w16 (c.eighth-near.ensures ∙ ap eighth (is w16 (ρ c.before) (v 0 ⊕ lit (pos 4)) tt)) (eighth_in _) tt)

abbrev p : After-eighth → Var
p c = known (answered w16 (c.eighth.ensures ∙ ap eighth (is w16 (ρ c.before.before) (v 0 ⊕ lit (pos 3)) tt)) (eighth_in _) tt)

abbrev next : E
next = shr (v 0 ⊕ lit (pos 1)) 1

pub overflow_add-next : goal.overflow_add-next
overflow_add-next c = fits w16 (q c ∷ []) (v 0 ⊕ lit (pos 1)) tt

pub sides-requires : goal.sides-requires
sides-requires c =
    let n = q c.before in
    (inside_read (wider n.is tt), inside_read (wider (know w16 (n ∷ []) next tt) tt), inside (wider (num (pos 0)) tt))

pub returns : goal.returns
unfolding half sides inner_steps_of
returns c =
    let n = q c.before.before in
    let h = is w16 (n ∷ []) next tt in
    c.sides.ensures ∙ (refl ∷≡ refl ∷≡ h ∷≡ (p c.before).is.eq ∷≡ ap neg_ℤ n.is.eq ∷≡ ap neg_ℤ h ∷≡ refl ∷≡ refl ∷≡ refl)
