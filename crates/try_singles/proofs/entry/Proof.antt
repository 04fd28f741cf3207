-- `entry` meets its contract: each result fits 32 bits.
use Rattle.numbers.specs.Words.{List, [], ◌∷◌, pos, inside_read, wider, Var, is, E, know, fits, ◌⊕◌, ◌⊖◌, ◌⊙◌, lit, v, known, there, unsigned, w32, rules}
use Rattle.try_singles.proofs.entry.Statement.{statement}
use Rattle.try_singles.proofs.entry.Tie as tie

-- a and b, widened
abbrev ρ : tie.Start → List Var
ρ c = known (there w32 (unsigned c.ranges.a) tt) ∷ known (there w32 (unsigned c.ranges.b) tt) ∷ []

abbrev high : E
high = 256 ⊙ v 0

abbrev all : E
all = high ⊕ v 1 ⊖ lit (pos 32768)

pub entry_spec : {M : Type 1} → statement M
entry_spec = tie.close (tie.spec (λ c. search rules) (λ c. fits w32 (ρ c) high tt) (λ c. search rules) (λ c. fits w32 (ρ c) (high ⊕ v 1) tt) (λ c. fits w32 (ρ c) all tt) (λ c. (is w32 (ρ c) all tt, inside_read (wider (know w32 (ρ c) all tt) tt))))
