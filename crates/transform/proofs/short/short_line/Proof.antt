-- `short_line` meets its contract: each scaled product stays near, so each sum and difference fits 16 bits.
use Rattle.numbers.specs.Words.{ℕ, ◌+◌, ◌*◌, ◌/◌, ◌≡◌, refl, ◌∙◌, ap, T, List, [], ◌∷◌, ◌∷≡◌, ℤ, pos, negsuc, neg_ℤ, In, within, round, Var, is, E, fits, ◌⊕◌, ◌⊖◌, v, known, there, answered, passed, w16, rules}
use Rattle.transform.specs.Transform.{scaled_of, pass_of}
use Rattle.transform.specs.TransformBounds.{scaled_near}
use Rattle.transform.proofs.short.short_line.Statement.{statement}
use Rattle.transform.proofs.short.short_line.Tie as tie

-- a, b, c, d and bias
abbrev line : tie.After-d-1 → ℕ → Var
line p i = known (there w16 (p.requires.0.at i) tt)

abbrev ρ : tie.After-d-1 → List Var → List Var
ρ p more = line p 0 ∷ line p 1 ∷ line p 2 ∷ line p 3 ∷ known (there w16 p.requires.1 tt) ∷ more

-- what `sine_part` and `cosine_part` answer
abbrev part : (k : ℕ) {x r : ℤ} → In (negsuc 7999) (pos 8000) x → r ≡ scaled_of (pos k) (round w16 x)
    → T (let n = k * 8000 / 65536 + 1 in within w16 (neg_ℤ (pos n)) (pos n)) → Var
part k {x} i e t = known (answered w16 (e ∙ ap (scaled_of (pos k)) (there w16 i tt).eq) (scaled_near k x i) t)

abbrev at : (p : tie.After-d-1) (i : ℕ) → In (negsuc 7999) (pos 8000) (line p i).z
at p i = p.requires.0.at i

abbrev ρ2 : tie.After-cosine_part → List Var → List Var
ρ2 q more =
    ρ q.before.before (part 35468 (at q.before.before 1) q.sine_part.ensures tt ∷ part 20091 (at q.before.before 3) q.cosine_part.ensures tt ∷ more)

abbrev ρ3 : tie.After-cosine_part-2 → List Var → List Var
ρ3 q more = ρ2 q.before (part 20091 (at q.before.before.before 1) q.cosine_part-2.ensures tt ∷ more)

abbrev ρ4 : tie.After-sine_part-2 → List Var
ρ4 q = ρ3 q.before (part 35468 (at q.before.before.before.before 3) q.sine_part-2.ensures tt ∷ [])

abbrev a1 : E
a1 = v 0 ⊕ v 2 ⊕ v 4

abbrev b1 : E
b1 = v 0 ⊖ v 2 ⊕ v 4

abbrev c1 : E
c1 = v 5 ⊖ v 6 ⊖ v 3

abbrev d1 : E
d1 = v 7 ⊕ v 1 ⊕ v 8

-- what they require
ask : (p : tie.After-d-1) (i : ℕ) → In (negsuc 7999) (pos 8000) (round w16 (line p i).z)
ask p i = passed w16 (at p i) tt tt

returns : tie.Need-returns
unfolding pass_of
returns q = is w16 (ρ4 q) (a1 ⊕ d1) tt ∷≡ is w16 (ρ4 q) (b1 ⊕ c1) tt ∷≡ is w16 (ρ4 q) (b1 ⊖ c1) tt ∷≡ is w16 (ρ4 q) (a1 ⊖ d1) tt ∷≡ refl

pub short_line_spec : {M : Type 1} → statement M
short_line_spec = tie.close (tie.spec (λ p. search rules) (λ p. search rules) (λ p. search rules) (λ p. search rules) (λ p. fits w16 (ρ p []) (v 0 ⊕ v 2) tt) (λ p. fits w16 (ρ p []) a1 tt) (λ p. fits w16 (ρ p []) (v 0 ⊖ v 2) tt) (λ p. fits w16 (ρ p []) b1 tt) (λ p κs. ask p 1) (λ q κs. ask q.before 3) (λ q. fits w16 (ρ2 q []) (v 5 ⊖ v 6) tt) (λ q. fits w16 (ρ2 q []) c1 tt) (λ q κs. ask q.before.before 1) (λ q. fits w16 (ρ3 q []) (v 7 ⊕ v 1) tt) (λ q κs. ask q.before.before.before 3) (λ q. fits w16 (ρ4 q) d1 tt) (λ q. fits w16 (ρ4 q) (a1 ⊕ d1) tt) (λ q. fits w16 (ρ4 q) (b1 ⊕ c1) tt) (λ q. fits w16 (ρ4 q) (b1 ⊖ c1) tt) (λ q. fits w16 (ρ4 q) (a1 ⊖ d1) tt) returns)
