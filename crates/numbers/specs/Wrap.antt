-- A number taken into 16 bits by wrapping: dequantized coefficients (RFC 6386, section 14.1, 4268-4269) and the Walsh transform's results
-- (section 14.3, 4350-4353).
use Rattle.std.specs.Prelude.{cond, Option, Some, None, ◌&&◌, ℕ, ℤ, pos, negsuc, ◌+ℤ◌, ◌-ℤ◌, ◌*ℤ◌}
use Rattle.std.specs.Int.Signed.{lt_z, le_z, shr_z}

-- how many times 65536 must be taken off v to leave -32768..32767: (v + 32768) / 65536, rounded down
abbrev pub wrap_turns : ℤ → ℤ
wrap_turns v = shr_z (v +ℤ pos 32768) 65536

-- the number in -32768..32767 that differs from v by a multiple of 65536
unfoldable pub wrap_z : ℤ → ℤ
wrap_z v = v -ℤ pos 65536 *ℤ wrap_turns v

-- what the public call answers: beyond a thousand million, either way, there is none
unfoldable pub wrap16_of : ℤ → Option ℤ
wrap16_of v = cond (le_z (negsuc 999999999) v && le_z v (pos 1000000000)) (Some (wrap_z v)) None

-- the answer's number: 0, or 9 for an argument that is refused
abbrev pub wrap16_number_of : Option ℤ → ℕ
wrap16_number_of (Some z) = 0
wrap16_number_of None = 9

-- a number in 0..65535 as one of sixteen bits with a sign: the last step of the source's `wrapped`
abbrev pub signed16 : ℤ → ℤ
signed16 u = cond (lt_z u (pos 32768)) u (u -ℤ pos 65536)
