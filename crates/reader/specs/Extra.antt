-- A number of several bits, most significant first (RFC 6386, section 7.3 read_literal, 1319-1326; section 13.2 DCTextra, 3481-3486), as a grammar.
use Rattle.std.specs.Prelude.{◌+◌, ◌&&◌, ◌∷◌}
use Rattle.numbers.specs.Words.{ℕ, true, false, leb, bit_of, List, [], length, Err}
use Rattle.reader.specs.declared.boolean.Unread.TheVariants as U
use Rattle.reader.specs.Reading.{Reader, ReadOf, to_read, valid_of, Reading, done, symbol, run, ◌>>=◌}

-- v += v + read_bool(d, p), for each probability in turn; v is what the bits so far make
unfoldable pub extra_from : ℕ → List ℕ → Reading ℕ
extra_from v [] = done v
extra_from v (p ∷ ps) = do
  b ← symbol p
  extra_from (v + v + bit_of b) ps

-- from no bits yet
abbrev pub extra : List ℕ → Reading ℕ
extra = extra_from 0

-- ---- the call's answer
-- the number, read from a partition
unfoldable pub extra_of : List ℕ → List ℕ → Reader → ReadOf ℕ
extra_of s ps r = to_read (run (extra ps) s r)

-- `extra_bits`: refused where the reader is out of range or there are over sixteen bits
unfoldable pub extra_answer : List ℕ → List ℕ → Reader → ReadOf ℕ
extra_answer s ps r = elim (valid_of s r && leb (length ps) 16) [ true ↦ extra_of s ps r | false ↦ Err U.Refused ]
