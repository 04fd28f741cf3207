-- The loop over small modes that were read, on plain values: what the first i of them took.
use Rattle.numbers.specs.Words.{ℕ, ◌+◌, ◌*◌, ◌≤◌, ◌<◌, arith, ◌≡◌, sym, List, get_or}
use Rattle.modes.specs.Modes.{small_depths, small_reads_of}
use Rattle.modes.specs.CountsLaws.{reads_none, reads_next}

pub record Summed (modes : List ℕ) (i reads : ℕ) : Type 0 where
  pub same : reads ≡ small_reads_of i modes
  pub few : reads ≤ i * 7
  pub inside : i ≤ 16

pub summed_start : (modes : List ℕ) → Summed modes 0 0
summed_start modes = record { same = sym (reads_none modes); few = omega arith; inside = omega arith }

module _ {modes : List ℕ} {i reads : ℕ} (g : Summed modes i reads) where
  pub summed_next : i < 16 → {n : ℕ} → n ≡ get_or small_depths (get_or modes i 0) 0 → n ≤ 7 → Summed modes (i + 1) (reads + n)
  summed_next h e l = record { same = omega (arith, g.same, e, reads_next i modes); few = omega (arith, g.few); inside = omega arith }

  pub summed_end : 16 ≤ i → (reads ≡ small_reads_of 16 modes) × (reads ≤ 112)
  summed_end h = let e : i ≡ 16 = omega (arith, g.inside) in (rw e at g.same, omega (arith, g.few))
