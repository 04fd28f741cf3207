-- The strengths of a macroblock's edge filter (RFC 6386, section 15.4, 5281-5364; whether inner edges are
-- filtered, section 15.1, 4785-4790).
use Rattle.std.specs.Prelude.{◌+◌, ◌-◌, ◌/◌, ◌&&◌}
use Rattle.numbers.specs.Words.{ℕ, min, max, Bool, true, false, eqb, ltb, leb, bit_of, Option, Some, None}
pub use Rattle.filter.specs.declared.strengths.Strength.{Strength}

-- interior_limit (5329-5338): sharpness above 0 halves the level, above 4 quarters it, and caps it at 9 - sharpness; at least 1
unfoldable pub slowed : ℕ → ℕ → ℕ
slowed level sharp = elim (ltb 4 sharp) [ true ↦ level / 4 | false ↦ level / 2 ]

-- the interior limit of a level
unfoldable pub inner_of : ℕ → ℕ → ℕ
inner_of level sharp = max (elim (ltb 0 sharp) [ true ↦ min (slowed level sharp) (9 - sharp) | false ↦ level ]) 1

-- hev_threshold of a key frame (5347-5355): 2 from level 40, 1 from 15
unfoldable pub threshold_of : ℕ → ℕ
threshold_of level = elim (leb 40 level) [ true ↦ 2 | false ↦ elim (leb 15 level) [ true ↦ 1 | false ↦ 0 ] ]

-- no filtering: four zeros
abbrev pub no_strength : Strength
no_strength = record { limit = 0; inner = 0; threshold = 0; inside = 0 }

-- level 0 filters nothing
unfoldable pub strength_of_of : ℕ → ℕ → Bool → Strength
strength_of_of level sharp inside =
    elim (eqb level 0) [
      | true ↦ no_strength
      | false ↦ record { limit = level + level + inner_of level sharp; inner = inner_of level sharp; threshold = threshold_of level; inside = bit_of inside }
    ]

-- in range: what can be kept in strength memory
abbrev pub strength_fine_of : Strength → Bool
strength_fine_of t = leb t.limit 189 && leb t.inner 63 && leb t.threshold 2 && leb t.inside 1

-- `at_level`: refused where the level is above 63
unfoldable pub strength_answer : ℕ → ℕ → Bool → Option Strength
strength_answer level sharp inside = elim (leb level 63) [ true ↦ Some (strength_of_of level sharp inside) | false ↦ None ]

-- the answer's number: 0, or 9 for a level that is refused
abbrev pub strengths_number_of : Option Strength → ℕ
strengths_number_of (Some t) = 0
strengths_number_of None = 9

-- the answer's strengths: zeros where it is refused
abbrev pub strengths_values_of : Option Strength → Strength
strengths_values_of (Some t) = t
strengths_values_of None = no_strength
