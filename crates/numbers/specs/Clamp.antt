-- A number taken into a range: samples 0..255 (RFC 6386, section 14.5, 4625-4629), signed bytes (section 15.2, 4861-4864), quantizer indices 0..127
-- (source 20.4, 7996-8003) and filter levels 0..63 (source 20.6, 9177-9180 and 9209-9212).
use Rattle.std.specs.Prelude.{cond, ℕ, ℤ, pos, negsuc, nat_abs}
use Rattle.std.specs.Int.Signed.{lt_z}

-- lo where v lies below it, hi where v lies above it, else v
unfoldable pub clamp_z : (lo hi v : ℤ) → ℤ
clamp_z lo hi v = cond (lt_z v lo) lo (cond (lt_z hi v) hi v)

-- v taken into 0..top, as a natural number
unfoldable pub up_to : (top : ℕ) (v : ℤ) → ℕ
up_to top v = nat_abs (clamp_z (pos 0) (pos top) v)

-- v as a sample, 0..255: clamp255 of section 14.5, 4628
abbrev pub clip_z : ℤ → ℕ
clip_z v = up_to 255 v

-- v taken into -(top + 1)..top
abbrev pub signed_to : (top : ℕ) (v : ℤ) → ℤ
signed_to top v = clamp_z (negsuc top) (pos top) v

-- v as a signed byte, -128..127: `c` of section 15.2, 4861-4864
abbrev pub signed_byte_z : ℤ → ℤ
signed_byte_z v = signed_to 127 v
