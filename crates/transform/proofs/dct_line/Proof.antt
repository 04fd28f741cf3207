-- `dct_line` meets its contract: each scaled product stays within the bounds of what is scaled, so each sum and difference fits 32 bits.
use Rattle.numbers.specs.Words.{ℕ, ◌≤◌, ◌≡◌, refl, ◌∙◌, ap, lit≤, List, [], ◌∷◌, ◌∷≡◌, ℤ, pos, negsuc, In, round, Var, is, E, fits, ◌⊕◌, ◌⊖◌, v, known, there, answered, passed, w32, rules}
use Rattle.transform.specs.Transform.{scaled_of, pass_of}
use Rattle.transform.specs.TransformBounds.{scaled_in}
use Rattle.transform.proofs.dct_line.Statement.{statement}
use Rattle.transform.proofs.dct_line.Tie as tie

-- a, b, c, d and bias
abbrev line : tie.After-d-1 → ℕ → Var
line p i = known (there w32 (p.requires.0.at i) tt)

abbrev ρ : tie.After-d-1 → List Var → List Var
ρ p more = line p 0 ∷ line p 1 ∷ line p 2 ∷ line p 3 ∷ known (there w32 p.requires.1 tt) ∷ more

-- what `by_sine` and `by_cosine` answer
abbrev part : (k : ℕ) {x r : ℤ} → In (negsuc 199999) (pos 200000) x → r ≡ scaled_of (pos k) (round w32 x) → k ≤ 65536 → Var
part k {x} i e h = known (answered w32 (e ∙ ap (scaled_of (pos k)) (there w32 i tt).eq) (scaled_in k x h i) tt)

abbrev at : (p : tie.After-d-1) (i : ℕ) → In (negsuc 199999) (pos 200000) (line p i).z
at p i = p.requires.0.at i

abbrev ρ2 : tie.After-by_cosine → List Var → List Var
ρ2 q more =
    ρ q.before.before (part _ (at q.before.before 1) q.by_sine.ensures (lit≤ tt) ∷ part _ (at q.before.before 3) q.by_cosine.ensures (lit≤ tt) ∷ more)

abbrev ρ3 : tie.After-by_cosine-2 → List Var → List Var
ρ3 q more = ρ2 q.before (part _ (at q.before.before.before 1) q.by_cosine-2.ensures (lit≤ tt) ∷ more)

abbrev ρ4 : tie.After-by_sine-2 → List Var
ρ4 q = ρ3 q.before (part _ (at q.before.before.before.before 3) q.by_sine-2.ensures (lit≤ tt) ∷ [])

abbrev a1 : E
a1 = v 0 ⊕ v 2 ⊕ v 4

abbrev b1 : E
b1 = v 0 ⊖ v 2 ⊕ v 4

abbrev c1 : E
c1 = v 5 ⊖ v 6 ⊖ v 3

abbrev d1 : E
d1 = v 7 ⊕ v 1 ⊕ v 8

-- what they require
ask : (p : tie.After-d-1) (i : ℕ) → In (negsuc 199999) (pos 200000) (round w32 (line p i).z)
ask p i = passed w32 (at p i) tt tt

returns : tie.Need-returns
unfolding pass_of
returns q = is w32 (ρ4 q) (a1 ⊕ d1) tt ∷≡ is w32 (ρ4 q) (b1 ⊕ c1) tt ∷≡ is w32 (ρ4 q) (b1 ⊖ c1) tt ∷≡ is w32 (ρ4 q) (a1 ⊖ d1) tt ∷≡ refl

pub dct_line_spec : {M : Type 1} → statement M
dct_line_spec = tie.close (tie.spec (λ p. search rules) (λ p. search rules) (λ p. search rules) (λ p. search rules) (λ p. fits w32 (ρ p []) (v 0 ⊕ v 2) tt) (λ p. fits w32 (ρ p []) a1 tt) (λ p. fits w32 (ρ p []) (v 0 ⊖ v 2) tt) (λ p. fits w32 (ρ p []) b1 tt) (λ p κs. ask p 1) (λ q κs. ask q.before 3) (λ q. fits w32 (ρ2 q []) (v 5 ⊖ v 6) tt) (λ q. fits w32 (ρ2 q []) c1 tt) (λ q κs. ask q.before.before 1) (λ q. fits w32 (ρ3 q []) (v 7 ⊕ v 1) tt) (λ q κs. ask q.before.before.before 3) (λ q. fits w32 (ρ4 q) d1 tt) (λ q. fits w32 (ρ4 q) (a1 ⊕ d1) tt) (λ q. fits w32 (ρ4 q) (b1 ⊕ c1) tt) (λ q. fits w32 (ρ4 q) (b1 ⊖ c1) tt) (λ q. fits w32 (ρ4 q) (a1 ⊖ d1) tt) returns)
