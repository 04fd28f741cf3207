use Rattle.numbers.specs.Words.{ℕ, min, ◌≤◌, ◌≡◌, ◌⊎◌, arith, inl, inr, ⊎_elim, lt_or}
use Rattle.tile.specs.PartitionsLaws.{part_cut}
use Rattle.tile.proofs.partitions.part.Goals as goal

least : (a b : ℕ) {r : ℕ} → r ≡ min a b → (r ≤ a) × ((r ≡ a) ⊎ (r ≡ b))
least a b e = (omega arith, ⊎_elim (λ h. inl (omega arith)) (λ h. inr (omega arith)) (lt_or a b))

pub returns : goal.returns
returns c = let s = least _ _ c.min-start.ensures in let n = least _ _ c.min.ensures in part_cut _ _ s.0 s.1 n.0 n.1
