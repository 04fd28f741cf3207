-- The coefficients of a block (RFC 6386, sections 13, 3350-3370, 13.2, 13.3 and 14.1), as grammars over the tokens of `reader`.
use Rattle.std.specs.Prelude.{◌+◌, ◌-◌, ◌*◌, ◌&&◌, ◌∷◌}
use Rattle.numbers.specs.Words.{Option, Some, None, ℕ, zero, suc, Bool, true, false, eqb, ltb, leb, List, [], length, get_or, set, replicate, build, ℤ, pos, negsuc, neg_ℤ, le_z, In, wrap_z, Ok, Err}
use Rattle.reader.specs.declared.boolean.Reader.{Reader}
use Rattle.reader.specs.Reading.{Given, given, missing, ReadOf, to_read, valid_of, Reading, done, symbol, run, ◌>>=◌, count}
use Rattle.reader.specs.Extra.{extra}
use Rattle.header.specs.Header.{coefficient_probability, entry_count, probability_count, entry, probability_of}
use Rattle.reader.specs.Token.{token, eleven_at}
use Rattle.reader.specs.declared.boolean.Unread.TheVariants as U

-- ---- the number of a token (section 13.2, 3448-3494, DCTextra)
-- the probabilities of a category's extra bits, Pcat1 to Pcat6 (3488-3494), and its least number
unfoldable pub categories : List (List ℕ)
categories =
    (159 ∷ [])
    ∷ (165 ∷ 145 ∷ [])
    ∷ (173 ∷ 148 ∷ 140 ∷ [])
    ∷ (176 ∷ 155 ∷ 140 ∷ 135 ∷ [])
    ∷ (180 ∷ 157 ∷ 141 ∷ 134 ∷ 130 ∷ [])
    ∷ (254 ∷ 254 ∷ 243 ∷ 230 ∷ 196 ∷ 177 ∷ 153 ∷ 140 ∷ 133 ∷ 130 ∷ 129 ∷ [])
    ∷ []

-- the least number of each category (section 13.3, 3663)
unfoldable pub bases : List ℕ
bases = 5 ∷ 7 ∷ 11 ∷ 19 ∷ 35 ∷ 67 ∷ []

-- a category's number: its least, and its extra bits
abbrev pub category : ℕ → List ℕ → Reading ℕ
category base ps = do
  v ← extra ps
  done (base + v)

-- of a token 2..11
unfoldable pub magnitude : ℕ → Reading ℕ
magnitude t =
    elim (ltb t 6) [
      | true ↦ done (t - 1)
      | false ↦ category (get_or bases (t - 6) 0) (get_or categories (t - 6) [])
    ]

-- ---- with its sign, times the quantizer q, taken into 16 bits (sections 13.2, 3498-3505, and 14.1, 4268-4269)
abbrev pub sign_of : Bool → ℕ → ℤ
sign_of true x = neg_ℤ (pos x)
sign_of false x = pos x

-- the token's number, then its sign, at probability 128
unfoldable pub signed_value : ℕ → ℕ → Reading ℤ
signed_value t q = do
  v ← magnitude t
  negative ← symbol 128
  done (wrap_z (sign_of negative (v * q)))

-- ---- a position in the block: its band (section 13.3, 3561-3563, coeff_bands), and where its number stands: zigzag, which section 13 names
-- (3367-3368) and the source alone prints (20.16, 13065-13068)
unfoldable pub bands : List ℕ
bands = 0 ∷ 1 ∷ 2 ∷ 3 ∷ 6 ∷ 4 ∷ 5 ∷ 6 ∷ 6 ∷ 6 ∷ 6 ∷ 6 ∷ 6 ∷ 6 ∷ 6 ∷ 7 ∷ []

-- where the number of position n stands in the block
unfoldable pub zigzag : List ℕ
zigzag = 0 ∷ 1 ∷ 4 ∷ 8 ∷ 5 ∷ 2 ∷ 3 ∷ 6 ∷ 9 ∷ 12 ∷ 13 ∷ 10 ∷ 7 ∷ 11 ∷ 14 ∷ 15 ∷ []

-- coeff_probs [kind] [band] [context] (section 13.3, 3519): eleven of the table's 4 * 8 * 3 * 11
unfoldable pub probability_place : ℕ → ℕ → ℕ → ℕ
probability_place kind n ctx = ((kind * 8 + get_or bands n 0) * 3 + ctx) * 11

-- the eleven of position n
abbrev pub probabilities_at : List ℕ → ℕ → ℕ → ℕ → List ℕ
probabilities_at table kind n ctx = eleven_at table (probability_place kind n ctx)

-- the first position has a quantizer of its own
unfoldable pub quantizer_at : ℕ → ℕ → ℕ → ℕ
quantizer_at n q0 q1 = elim (eqb n 0) [ true ↦ q0 | false ↦ q1 ]

-- the context after a number: 1 after a one, 2 after more; after a zero it is 0 (section 13.3, 3591-3595)
unfoldable pub context_after : ℕ → ℕ
context_after t = elim (eqb t 2) [ true ↦ 1 | false ↦ 2 ]

-- ---- a block (section 13.3, 3684-3734; section 19.3, 7343-7352)
-- the position after its last number or zero, and its sixteen numbers, row after row
pub record Coefficients : Type 0 where
  pub end : ℕ
  pub values : List ℤ

module _ (table : List ℕ) (kind q0 q1 : ℕ) where
  -- `left` more positions from n on, in a context, after a zero or not; nothing is read after position 15
  unfoldable pub block_from : ℕ → ℕ → ℕ → Bool → List ℤ → Reading Coefficients
  block_from zero n ctx z values = done (record { end = n; values = values })
  block_from (suc left) n ctx z values = do
    t ← token (probabilities_at table kind n ctx) z
    elim (eqb t 0) [
      | true ↦ done (record { end = n; values = values })
      | false ↦ elim (eqb t 1) [
        | true ↦ block_from left (n + 1) 0 true values
        | false ↦ do
          v ← signed_value t (quantizer_at n q0 q1)
          block_from left (n + 1) (context_after t) false (set values (get_or zigzag n 0) v)
      ]
    ]

  -- a block from its first position on
  abbrev pub block : ℕ → ℕ → List ℤ → Reading Coefficients
  block ctx first values = block_from (16 - first) first ctx false values

-- ---- the header's 1056 probabilities as bytes: each entry modulo 256
unfoldable pub header_table : List ℤ → List ℕ
header_table h = build probability_count (λ i. probability_of (entry h (coefficient_probability + i)))

-- ---- the calls' answers
-- a token's number, read from a partition
unfoldable pub magnitude_of : List ℕ → ℕ → Reader → ReadOf ℕ
magnitude_of s t r = to_read (run (magnitude t) s r)

-- the same with its sign, times a quantizer
unfoldable pub signed_of : List ℕ → ℕ → ℕ → Reader → ReadOf ℤ
signed_of s t q r = to_read (run (signed_value t q) s r)

-- `number` and `dequant`: refused where the reader is out of range or the token outside 2..11
abbrev pub numeric_of : ℕ → Bool
numeric_of t = leb 2 t && leb t 11

-- what `number` answers
unfoldable pub number_answer : List ℕ → ℕ → Reader → ReadOf ℕ
number_answer s t r = elim (valid_of s r && numeric_of t) [ true ↦ magnitude_of s t r | false ↦ Err U.Refused ]

-- what `dequant` answers
unfoldable pub signed_answer : List ℕ → ℕ → ℕ → Reader → ReadOf ℤ
signed_answer s t q r = elim (valid_of s r && numeric_of t) [ true ↦ signed_of s t q r | false ↦ Err U.Refused ]

-- a block's call: the answer, and the sixteen numbers that were lent
pub record BlockCalled : Type 0 where
  pub answer : ReadOf ℕ
  pub out : List ℤ

-- the numbers are written only where the block has ended
abbrev pub to_block_called : List ℤ → Given Coefficients → BlockCalled
to_block_called old (given x r) = record { answer = Ok (x.end, r); out = x.values }
to_block_called old missing = record { answer = Err U.Missing; out = old }

-- a refusal: the lent numbers are as they were
abbrev pub refused_block : List ℤ → BlockCalled
refused_block old = record { answer = Err U.Refused; out = old }

-- each of the first n numbers lies in -32768..32767
unfoldable pub sixteen_bits : List ℤ → ℕ → Bool
sixteen_bits l zero = true
sixteen_bits l (suc n) = sixteen_bits l n && (le_z (negsuc 32767) (get_or l n (pos 0)) && le_z (get_or l n (pos 0)) (pos 32767))

-- 1056 probabilities, a kind below 4, a context below 3, a first position 0 or 1
abbrev pub block_arguments : List ℕ → ℕ → ℕ → ℕ → Bool
block_arguments table kind ctx first = eqb (length table) probability_count && (ltb kind 4 && (ltb ctx 3 && leb first 1))

module _ (s : List ℕ) (r : Reader) where
  -- with the arguments in range
  unfoldable pub block_of : List ℕ → ℕ → ℕ → ℕ → ℕ → ℕ → List ℤ → BlockCalled
  block_of table kind ctx first q0 q1 old = to_block_called old (run (block table kind q0 q1 ctx first old) s r)

  -- `decode`: refused where the reader, the table's length, the kind, the context, the first position or a number is out of range
  unfoldable pub block_call_of : List ℕ → ℕ → ℕ → ℕ → ℕ → ℕ → List ℤ → BlockCalled
  block_call_of table kind ctx first q0 q1 old =
      elim (valid_of s r && (block_arguments table kind ctx first && sixteen_bits old 16)) [
        | true ↦ block_of table kind ctx first q0 q1 old
        | false ↦ refused_block old
      ]

  -- `decode_header`: refused too where the header's length is not its own
  unfoldable pub block_by_header_of : List ℤ → ℕ → ℕ → ℕ → ℕ → ℕ → List ℤ → BlockCalled
  block_by_header_of h kind ctx first q0 q1 old =
      elim (eqb (length h) entry_count) [
        | true ↦ block_call_of (header_table h) kind ctx first q0 q1 old
        | false ↦ refused_block old
      ]

-- ---- how many symbols the calls read (M-103): those of the grammar, up to one that is missing; none where they refuse
module _ (s : List ℕ) (r : Reader) where
  unfoldable pub block_reads : List ℕ → ℕ → ℕ → ℕ → ℕ → ℕ → List ℤ → ℕ
  block_reads table kind ctx first q0 q1 old =
      elim (valid_of s r && (block_arguments table kind ctx first && sixteen_bits old 16)) [
        | true ↦ count (block table kind q0 q1 ctx first old) s r
        | false ↦ 0
      ]

  -- `decode_header`: none too where the header's length is not its own
  unfoldable pub block_by_header_reads : List ℤ → ℕ → ℕ → ℕ → ℕ → ℕ → List ℤ → ℕ
  block_by_header_reads h kind ctx first q0 q1 old =
      elim (eqb (length h) entry_count) [
        | true ↦ block_reads (header_table h) kind ctx first q0 q1 old
        | false ↦ 0
      ]

-- `probabilities`: none where the header's length is not its own
unfoldable pub table_of : List ℤ → Option (List ℕ)
table_of h = elim (eqb (length h) entry_count) [ true ↦ Some (header_table h) | false ↦ None ]

-- its number: 0, or 9 for a header that is refused
abbrev pub table_number_of : Option (List ℕ) → ℕ
table_number_of (Some l) = 0
table_number_of None = 9

-- a number of 16 bits
abbrev pub SixteenBits : ℤ → Type 0
SixteenBits z = In (negsuc 32767) (pos 32767) z
