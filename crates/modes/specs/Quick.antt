-- Parts of a macroblock's modes over a wide reader.
use Rattle.std.specs.Prelude.{◌∷◌}
use Rattle.numbers.specs.Words.{ℕ, true, false, List, [], ℤ}
use Rattle.reader.specs.Trees.{node, leaf}
use Rattle.wide.specs.declared.wide.Wide.{Wide}
use Rattle.wide.specs.Wide.{wide_bit_of}

-- the last symbol of a walk: one of two leaves
abbrev pub last_of : Wide → ℕ → ℕ → ℕ → ℕ × Wide
last_of w prob low high = (elim (wide_bit_of w prob).on [ true ↦ high | false ↦ low ], (wide_bit_of w prob).next)

-- a tree of two nodes below its root, with four leaves: the segments' and the large luma modes'
abbrev pub fork_of : ℕ → ℕ → ℕ → ℕ → List ℤ
fork_of a b c d = node 1 ∷ node 2 ∷ leaf a ∷ leaf b ∷ leaf c ∷ leaf d ∷ []
