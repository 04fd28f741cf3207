-- Quantizers (RFC 6386, sections 9.6, 2037-2050, and 14.1, 4251-4310, which points to the source, 20.4, 7996-8072, for scaling and
-- clamping): what each kind of coefficient is multiplied by in a segment.
use Rattle.std.specs.Prelude.{◌+◌, ◌*◌, ◌/◌, ◌&&◌, ◌∷◌, ◌+ℤ◌}
use Rattle.numbers.specs.Words.{ℕ, Option, Some, None, min, max, true, false, ltb, List, [], get_or, ℤ, pos, up_to}
use Rattle.header.specs.Header.{segment_index, base_index, ydc_delta, y2dc_delta, y2ac_delta, uvdc_delta, uvac_delta, entry, header_of}
use Rattle.header.specs.Own.{segmented_of}
pub use Rattle.header.specs.declared.quantizers.Factors.{Factors}

-- ---- section 14.1: the steps by index, dc_qlookup (4276-4288) and ac_qlookup (4290-4302)
unfoldable pub dc_steps : List ℕ
dc_steps =
    4 ∷ 5 ∷ 6 ∷ 7 ∷ 8 ∷ 9 ∷ 10 ∷ 10 ∷ 11 ∷ 12 ∷ 13 ∷ 14 ∷ 15 ∷ 16 ∷ 17 ∷ 17
    ∷ 18 ∷ 19 ∷ 20 ∷ 20 ∷ 21 ∷ 21 ∷ 22 ∷ 22 ∷ 23 ∷ 23 ∷ 24 ∷ 25 ∷ 25 ∷ 26 ∷ 27 ∷ 28
    ∷ 29 ∷ 30 ∷ 31 ∷ 32 ∷ 33 ∷ 34 ∷ 35 ∷ 36 ∷ 37 ∷ 37 ∷ 38 ∷ 39 ∷ 40 ∷ 41 ∷ 42 ∷ 43
    ∷ 44 ∷ 45 ∷ 46 ∷ 46 ∷ 47 ∷ 48 ∷ 49 ∷ 50 ∷ 51 ∷ 52 ∷ 53 ∷ 54 ∷ 55 ∷ 56 ∷ 57 ∷ 58
    ∷ 59 ∷ 60 ∷ 61 ∷ 62 ∷ 63 ∷ 64 ∷ 65 ∷ 66 ∷ 67 ∷ 68 ∷ 69 ∷ 70 ∷ 71 ∷ 72 ∷ 73 ∷ 74
    ∷ 75 ∷ 76 ∷ 76 ∷ 77 ∷ 78 ∷ 79 ∷ 80 ∷ 81 ∷ 82 ∷ 83 ∷ 84 ∷ 85 ∷ 86 ∷ 87 ∷ 88 ∷ 89
    ∷ 91 ∷ 93 ∷ 95 ∷ 96 ∷ 98 ∷ 100 ∷ 101 ∷ 102 ∷ 104 ∷ 106 ∷ 108 ∷ 110 ∷ 112 ∷ 114 ∷ 116 ∷ 118
    ∷ 122 ∷ 124 ∷ 126 ∷ 128 ∷ 130 ∷ 132 ∷ 134 ∷ 136 ∷ 138 ∷ 140 ∷ 143 ∷ 145 ∷ 148 ∷ 151 ∷ 154 ∷ 157 ∷ []

-- the steps of all other coefficients
unfoldable pub ac_steps : List ℕ
ac_steps =
    4 ∷ 5 ∷ 6 ∷ 7 ∷ 8 ∷ 9 ∷ 10 ∷ 11 ∷ 12 ∷ 13 ∷ 14 ∷ 15 ∷ 16 ∷ 17 ∷ 18 ∷ 19
    ∷ 20 ∷ 21 ∷ 22 ∷ 23 ∷ 24 ∷ 25 ∷ 26 ∷ 27 ∷ 28 ∷ 29 ∷ 30 ∷ 31 ∷ 32 ∷ 33 ∷ 34 ∷ 35
    ∷ 36 ∷ 37 ∷ 38 ∷ 39 ∷ 40 ∷ 41 ∷ 42 ∷ 43 ∷ 44 ∷ 45 ∷ 46 ∷ 47 ∷ 48 ∷ 49 ∷ 50 ∷ 51
    ∷ 52 ∷ 53 ∷ 54 ∷ 55 ∷ 56 ∷ 57 ∷ 58 ∷ 60 ∷ 62 ∷ 64 ∷ 66 ∷ 68 ∷ 70 ∷ 72 ∷ 74 ∷ 76
    ∷ 78 ∷ 80 ∷ 82 ∷ 84 ∷ 86 ∷ 88 ∷ 90 ∷ 92 ∷ 94 ∷ 96 ∷ 98 ∷ 100 ∷ 102 ∷ 104 ∷ 106 ∷ 108
    ∷ 110 ∷ 112 ∷ 114 ∷ 116 ∷ 119 ∷ 122 ∷ 125 ∷ 128 ∷ 131 ∷ 134 ∷ 137 ∷ 140 ∷ 143 ∷ 146 ∷ 149 ∷ 152
    ∷ 155 ∷ 158 ∷ 161 ∷ 164 ∷ 167 ∷ 170 ∷ 173 ∷ 177 ∷ 181 ∷ 185 ∷ 189 ∷ 193 ∷ 197 ∷ 201 ∷ 205 ∷ 209
    ∷ 213 ∷ 217 ∷ 221 ∷ 225 ∷ 229 ∷ 234 ∷ 239 ∷ 245 ∷ 249 ∷ 254 ∷ 259 ∷ 264 ∷ 269 ∷ 274 ∷ 279 ∷ 284 ∷ []

-- the step of a block's first coefficient, by index
abbrev pub dc_at : ℕ → ℕ
dc_at i = get_or dc_steps i 0

-- the step of the others
abbrev pub ac_at : ℕ → ℕ
ac_at i = get_or ac_steps i 0

-- ---- the frame's index, or the segment's own (section 9.6, 2046-2050; 14.1, 4263-4268)
-- clamped to 0..127, and again after a delta; the RFC's source clamps once, after the delta (8015-8058; docs/DIFFERENCES.md)
abbrev pub index_of : List ℤ → ℕ → ℕ
index_of h segment = up_to 127 (segmented_of h base_index (segment_index + segment))

-- the index with a delta of its own
abbrev pub index_with : ℕ → ℤ → ℕ
index_with index delta = up_to 127 (pos index +ℤ delta)

-- a step times 155 / 100, at least 8 (source 20.4, 8057-8061)
abbrev pub second_ac_of : ℕ → ℕ
second_ac_of step = max (step * 155 / 100) 8

-- the six factors: five are moved by a delta of their own; doubling, 155 / 100, 8 and 132 stand in the source alone (20.4, 8047-8072)
unfoldable pub factors_of_of : List ℤ → ℕ → Factors
factors_of_of h segment =
    let i = index_of h segment in
    record {
      ydc = dc_at (index_with i (entry h ydc_delta));
      yac = ac_at i;
      y2dc = dc_at (index_with i (entry h y2dc_delta)) * 2;
      y2ac = second_ac_of (ac_at (index_with i (entry h y2ac_delta)));
      uvdc = min (dc_at (index_with i (entry h uvdc_delta))) 132;
      uvac = ac_at (index_with i (entry h uvac_delta));
    }

-- `for_segment`: refused where the header is not fine or there is no such segment
unfoldable pub quantizers_of : List ℤ → ℕ → Option Factors
quantizers_of h segment = elim (header_of h && ltb segment 4) [ true ↦ Some (factors_of_of h segment) | false ↦ None ]

-- the answer's number: 0, or 9 for an argument that is refused
abbrev pub quantizers_number_of : Option Factors → ℕ
quantizers_number_of (Some f) = 0
quantizers_number_of None = 9

-- what stands for the factors after a refusal: zeros
abbrev pub no_factors : Factors
no_factors = record { ydc = 0; yac = 0; y2dc = 0; y2ac = 0; uvdc = 0; uvac = 0 }
