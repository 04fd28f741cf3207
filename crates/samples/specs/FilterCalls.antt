-- The filter's calls as C sees them: a number, and the planes or the samples.
use Rattle.numbers.specs.Words.{ℕ, Bool, true, false, not, eqb, List, length}
use Rattle.filter.specs.Kernel.{filter_of}
use Rattle.macroblock.specs.Macroblock.{Planes}
use Rattle.deblock.specs.Deblock as Deblock
use Rattle.deblock.specs.Deblock.{DeblockAnswer, deblock_of}

-- a flag is true where its number is not 0
abbrev pub flag_of : ℕ → Bool
flag_of n = not (eqb n 0)

-- deblocking: its number and the planes
pub record DeblockCalled : Type 0 where
  pub number : ℕ
  pub planes : Planes

-- the deblocking call's answer, as C sees it
abbrev pub to_deblock_called : DeblockAnswer → DeblockCalled
to_deblock_called o = record { number = Deblock.deblock_number_of o.answer; planes = o.planes }

-- `hookbarley_deblock`: the deblocking call, its flag a number
unfoldable pub deblock_called_of : Planes → (strengths : List ℕ) → (w h simple : ℕ) → DeblockCalled
deblock_called_of d strengths w h simple = to_deblock_called (deblock_of d strengths w h (flag_of simple))

-- eight samples, else 9
pub record Filtered : Type 0 where
  pub number : ℕ
  pub samples : List ℕ

-- `hookbarley_filter`: the kernel where there are eight samples
unfoldable pub filtered_of : List ℕ → (simple edge limit inner threshold : ℕ) → Filtered
filtered_of e simple edge limit inner threshold =
    elim (eqb (length e) 8) [
      | true ↦ record { number = 0; samples = filter_of e (flag_of simple) (flag_of edge) limit inner threshold }
      | false ↦ record { number = 9; samples = e }
    ]
