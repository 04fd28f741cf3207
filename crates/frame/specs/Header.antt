-- The coded header of a key frame as a grammar, in the order of RFC 6386, section 19.2, 6806-6854 (9.2 to 9.11 explain each field): `header`, at the
-- end, is its table Frame Header. `literal n` is the RFC's L(n), `symbol p` its B(p); its name of a field stands beside ours.
use Rattle.std.specs.Prelude.{◌+◌}
use Rattle.numbers.specs.Words.{ℕ, zero, suc, Bool, true, false, List, get_or, set, replicate}
use Rattle.header.specs.Header.{probability_count}
use Rattle.reader.specs.Reading.{Reading, done, ◌>>=◌, symbol}
use Rattle.reader.specs.Extra.{extra}
pub use Rattle.frame.specs.declared.fields.CodedNumber.{CodedNumber}
pub use Rattle.frame.specs.declared.fields.Four.{Four}
pub use Rattle.frame.specs.declared.fields.Three.{Three}
use Rattle.frame.specs.declared.fields.Features.{Features}
pub use Rattle.frame.specs.declared.fields.Segments.{Segments}
use Rattle.frame.specs.declared.fields.Deltas.{Deltas}
pub use Rattle.frame.specs.declared.fields.Filter.{Filter}
pub use Rattle.frame.specs.declared.fields.QuantIndices.{QuantIndices}
pub use Rattle.frame.specs.declared.fields.Header.{Header}
use Rattle.frame.specs.Tables.{default_probs, update_probs}

-- L(n): n bits, the highest first, each with probability 128 (section 8, 1373-1376)
unfoldable pub literal : ℕ → Reading ℕ
literal n = extra (replicate n 128)

-- what is read only where a flag is set; else a value that stands for it
unfoldable pub when : {A : Type 0} → ℕ → A → Reading A → Reading A
when zero a m = done a
when (suc n) a m = m

-- a number with its sign: a flag whether it is given, its n bits, its sign; zero where it is not given
abbrev pub no_value : CodedNumber
no_value = record { sign = 0; size = 0 }

-- the flag, then the magnitude of n bits, then the sign
unfoldable pub signed : ℕ → Reading CodedNumber
signed n = do
  given ← literal 1  -- .._update, .._flag, .._present
  when given no_value (do
    size ← literal n  -- .._value, .._magnitude
    sign ← literal 1  -- .._sign
    done (record { sign = sign; size = size }))

-- four, one for each segment
unfoldable pub four_signed : ℕ → Reading Four
four_signed n = do
  a ← signed n
  b ← signed n
  c ← signed n
  d ← signed n
  done (record { a = a; b = b; c = c; d = d })

-- ---- update_segmentation() (section 19.2, 6965-6992; in words 9.3, 1880-1924). 7007 says which segment_feature_mode is absolute, 1; 1894 has
-- it the other way round
abbrev pub no_four : Four
no_four = record { a = no_value; b = no_value; c = no_value; d = no_value }

-- what stands for the features where they are not updated
abbrev pub no_features_of : Features
no_features_of = record { absolute = 0; quantizers = no_four; levels = no_four }

-- segment_feature_mode, then the segments' quantizers and levels
unfoldable pub features : Reading Features
features = do
  absolute ← literal 1  -- segment_feature_mode
  quantizers ← four_signed 7  -- quantizer_update
  levels ← four_signed 6  -- loop_filter_update
  done (record { absolute = absolute; quantizers = quantizers; levels = levels })

-- a probability of the map's tree: 255 where it is not given
unfoldable pub map_prob_of : Reading ℕ
map_prob_of = do
  given ← literal 1  -- segment_prob_update
  when given 255 (literal 8)  -- segment_prob

-- what stands for the map's probabilities where there is no map
abbrev pub no_probs_of : Three
no_probs_of = record { a = 0; b = 0; c = 0 }

-- the three nodes of the map's tree
unfoldable pub map_probs_of : Reading Three
map_probs_of = do
  a ← map_prob_of
  b ← map_prob_of
  c ← map_prob_of
  done (record { a = a; b = b; c = c })

-- what stands for all of it where segmentation is off
abbrev pub no_segments_of : Segments
no_segments_of = record { on = 0; map = 0; features = no_features_of; probs = no_probs_of }

-- what follows segmentation_enabled: two flags, and what they announce
unfoldable pub update : ℕ → Reading Segments
update on = do
  map ← literal 1  -- update_mb_segmentation_map
  changes ← literal 1  -- update_segment_feature_data
  features ← when changes no_features_of features
  probs ← when map no_probs_of map_probs_of
  done (record { on = on; map = map; features = features; probs = probs })

-- segmentation_enabled, then the rest where it is 1
unfoldable pub segments : Reading Segments
segments = do
  on ← literal 1  -- segmentation_enabled
  when on no_segments_of (update on)

-- ---- filter_type, loop_filter_level, sharpness_level, mb_lf_adjustments() (section 19.2, 6815-6818 and 7063-7084; 9.4, 1936-1984)
abbrev pub no_deltas_of : Deltas
no_deltas_of = record { intra = no_value; small = no_value }

-- all eight are read (a key frame starts from zeros: section 4, 418-422; source 7904); a key frame uses the first of each four, that of the
-- intra frame and that of B_PRED
unfoldable pub deltas : Reading Deltas
deltas = do
  frames ← four_signed 6  -- ref_frame_delta_update_flag
  modes ← four_signed 6  -- mb_mode_delta_update_flag
  done (record { intra = frames.a; small = modes.a })

-- mode_ref_lf_delta_update, then the deltas where it is 1
unfoldable pub deltas_update_of : Reading Deltas
deltas_update_of = do
  update ← literal 1  -- mode_ref_lf_delta_update
  when update no_deltas_of deltas

-- the loop filter's fields in order
unfoldable pub filter : Reading Filter
filter = do
  kind ← literal 1  -- filter_type
  level ← literal 6  -- loop_filter_level
  sharpness ← literal 3  -- sharpness_level
  on ← literal 1  -- loop_filter_adj_enable
  deltas ← when on no_deltas_of deltas_update_of
  done (record { kind = kind; level = level; sharpness = sharpness; on = on; deltas = deltas })

-- ---- quant_indices() (section 19.2, 7119-7146; 9.6, 2046-2088)
unfoldable pub quantizers : Reading QuantIndices
quantizers = do
  base ← literal 7  -- y_ac_qi
  ydc ← signed 4  -- y_dc_delta
  y2dc ← signed 4  -- y2_dc_delta
  y2ac ← signed 4  -- y2_ac_delta
  uvdc ← signed 4  -- uv_dc_delta
  uvac ← signed 4  -- uv_ac_delta
  done (record { base = base; ydc = ydc; y2dc = y2dc; y2ac = y2ac; uvdc = uvdc; uvac = uvac })

-- ---- token_prob_update() (section 19.2, 7187-7199; 9.9, 2173-2179; 13.4, 3767-3792: the flag's probability is coeff_update_probs')
-- one probability: given anew, or kept
abbrev pub chosen : Bool → ℕ → Reading ℕ
chosen true old = literal 8  -- coeff_prob
chosen false old = done old

-- a flag with the probability p, then eight bits where it is 1
unfoldable pub prob : ℕ → ℕ → Reading ℕ
prob p old = do
  given ← symbol p  -- coeff_prob_update_flag
  chosen given old

-- n more, from place i on
unfoldable pub probs_from : ℕ → ℕ → List ℕ → Reading (List ℕ)
probs_from zero i table = done table
probs_from (suc n) i table = do
  p ← prob (get_or update_probs i 0) (get_or table i 0)
  probs_from n (i + 1) (set table i p)

-- all 1056, from those that a key frame starts with
unfoldable pub probs : Reading (List ℕ)
probs = probs_from probability_count 0 default_probs

-- ---- the header (section 19.2, 6806-6854, a key frame's part of it; the last two fields 9.11, 2250-2265)
unfoldable pub header : Reading Header
header = do
  colour ← literal 1  -- color_space
  clamping ← literal 1  -- clamping_type
  segments ← segments
  filter ← filter
  partitions ← literal 2  -- log2_nbr_of_dct_partitions
  quantizers ← quantizers
  refresh ← literal 1  -- refresh_entropy_probs
  probs ← probs
  skip ← literal 1  -- mb_no_skip_coeff
  chance ← when skip 0 (literal 8)  -- prob_skip_false
  done
      (record {
        colour = colour;
        clamping = clamping;
        segments = segments;
        filter = filter;
        partitions = partitions;
        quantizers = quantizers;
        refresh = refresh;
        probs = probs;
        skip = skip;
        chance = chance;
      })
