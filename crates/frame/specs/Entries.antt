-- The 1096 entries that every layer reads, made from the fields of the coded header, each stored by its name. Those with no name are 0.
use Rattle.std.specs.Prelude.{◌+◌, ◌-◌, ◌∷◌, ◌-ℤ◌}
use Rattle.numbers.specs.Words.{ℕ, zero, suc, true, false, ltb, List, [], get_or, set, replicate, build, ℤ, pos}
use Rattle.frame.specs.Header.{CodedNumber, Four, Three, Segments, Filter, QuantIndices, Header, no_value}
use Rattle.header.specs.Header as Name

-- a coded number as a number: its magnitude, negative where its sign is not 0
abbrev pub negative : ℕ → ℕ → ℤ
negative zero size = pos size
negative (suc n) size = pos 0 -ℤ pos size

-- a signed field as a number
abbrev pub value_of : CodedNumber → ℤ
value_of x = negative x.sign x.size

-- a number that is coded without a sign
abbrev pub plain : ℕ → CodedNumber
plain n = record { sign = 0; size = n }

-- numbers stored one after the other, each at its entry
abbrev pub stored_entries : List (ℕ × CodedNumber) → List CodedNumber → List CodedNumber
stored_entries [] l = l
stored_entries (e ∷ rest) l = stored_entries rest (set l e.0 e.1)

-- ---- the entries before the coefficient probabilities
-- one for each segment
abbrev pub four_from_of : ℕ → Four → List (ℕ × CodedNumber)
four_from_of i f = (i, f.a) ∷ (i + 1, f.b) ∷ (i + 2, f.c) ∷ (i + 3, f.d) ∷ []

-- one for each node of the map's tree
abbrev pub three_from_of : ℕ → Three → List (ℕ × CodedNumber)
three_from_of i t = (i, plain t.a) ∷ (i + 1, plain t.b) ∷ (i + 2, plain t.c) ∷ []

-- the segments' entries, from update_segmentation()
unfoldable pub with_segments_of : Segments → List CodedNumber → List CodedNumber
with_segments_of g l =
    stored_entries (three_from_of Name.map_probability g.probs)
    (stored_entries (four_from_of Name.segment_level g.features.levels)
    (stored_entries (four_from_of Name.segment_index g.features.quantizers)
    (stored_entries
    ((Name.segments_on, plain g.on)
    ∷ (Name.map_on, plain g.map)
    ∷ (Name.segments_absolute, plain g.features.absolute)
    ∷ [])
    l)))

-- the loop filter's entries
unfoldable pub with_filter_of : Filter → List CodedNumber → List CodedNumber
with_filter_of f =
    stored_entries
    ((Name.frame_level, plain f.level)
    ∷ (Name.sharpness, plain f.sharpness)
    ∷ (Name.deltas_on, plain f.on)
    ∷ (Name.intra_delta, f.deltas.intra)
    ∷ (Name.small_delta, f.deltas.small)
    ∷ [])

-- the quantizers' entries, from quant_indices()
unfoldable pub with_quantizers_of : QuantIndices → List CodedNumber → List CodedNumber
with_quantizers_of q =
    stored_entries
    ((Name.base_index, plain q.base)
    ∷ (Name.ydc_delta, q.ydc)
    ∷ (Name.y2dc_delta, q.y2dc)
    ∷ (Name.y2ac_delta, q.y2ac)
    ∷ (Name.uvdc_delta, q.uvdc)
    ∷ (Name.uvac_delta, q.uvac)
    ∷ [])

-- all entries before the coefficient probabilities; those with no name are 0
unfoldable pub numbers : Header → List CodedNumber
numbers h = with_quantizers_of h.quantizers (with_filter_of h.filter (with_segments_of h.segments (replicate Name.coefficient_probability no_value)))

-- ---- all of them: those, the coefficient probabilities, whether macroblocks may be skipped and the probability of that
unfoldable pub number_at_of : List CodedNumber → List ℕ → ℕ → ℕ → ℕ → CodedNumber
number_at_of first probs skip chance i =
    elim (ltb i Name.coefficient_probability) [
      | true ↦ get_or first i no_value
      | false ↦ elim (ltb i Name.skips_on) [
        | true ↦ plain (get_or probs (i - Name.coefficient_probability) 0)
        | false ↦ elim (ltb i Name.skip_probability_of) [ true ↦ plain skip | false ↦ plain chance ]
      ]
    ]

-- the 1096 entries as numbers
unfoldable pub entries : Header → List ℤ
entries h = build Name.entry_count (λ i. value_of (number_at_of (numbers h) h.probs h.skip h.chance i))
