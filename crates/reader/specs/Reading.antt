-- The boolean decoder, the grammars that are run over it, and the symbols that a run reads.
use Rattle.std.specs.Prelude.{◌+◌, ◌-◌, ◌*◌, ◌/◌, ◌%◌, ◌^◌, ◌≤◌, ◌<◌, ◌≡◌, ◌&&◌, ◌∷◌}
use Rattle.numbers.specs.Words.{ℕ, zero, suc, Bool, true, false, eqb, ltb, leb, List, length, get_or, [], Result, Ok, Err}
pub use Rattle.numbers.specs.Lists.{Bytes}
pub use Rattle.reader.specs.declared.boolean.Reader.{Reader}
pub use Rattle.reader.specs.declared.boolean.Unread.{Unread}
use Rattle.reader.specs.declared.boolean.Unread.TheVariants as U

-- ==== The boolean decoder (RFC 6386, section 7.3, 1239-1313; in words 7.2, 1071-1097): what a symbol is, where a byte is missing, which readers
-- are in range.

-- What asking a partition gives: a value and the reader after it, or a byte is missing.
pub data Given (A : Type 0) : Type 0 where
  given : A → Reader → Given A
  missing : Given A

-- ---- one symbol
-- split = 1 + (((range - 1) * probability) >> 8) (section 7.3, 1279)
unfoldable pub split_of : ℕ → ℕ → ℕ
split_of range prob = 1 + (range - 1) * prob / 256

-- a one takes the range less the split, and 256 * split off the window; a zero takes the split, and leaves the window (1295-1302)
abbrev pub chosen_of : Reader → ℕ → Bool → Reader
chosen_of r split true = record { at = r.at; range = r.range - split; shifts = r.shifts; window = r.window - 256 * split }
chosen_of r split false = record { at = r.at; range = split; shifts = r.shifts; window = r.window }

-- a shift: range and window double (1305-1306), the window keeping its low sixteen bits; the RFC's has more (docs/DIFFERENCES.md)
abbrev pub shifted : Reader → Reader
shifted r = record { at = r.at; range = r.range * 2; shifts = r.shifts + 1; window = r.window * 2 % 65536 }

-- an eighth shift: it also loads the byte b
abbrev pub loaded : ℕ → Reader → Reader
loaded b r = record { at = r.at + 1; range = r.range * 2; shifts = 0; window = r.window * 2 % 65536 + b }

-- while the range is below 128, shift; each eighth shift loads the next byte (1304-1311), which past the end is zero (20.2, 7534-7538).
-- At most n shifts: seven suffice, since a range is at least 1 (`grow_enough`).
unfoldable pub grow : ℕ → List ℕ → Reader → Reader
grow zero s r = r
grow (suc n) s r =
    elim (ltb r.range 128) [
      | false ↦ r
      | true ↦ elim (eqb r.shifts 7) [ false ↦ grow n s (shifted r) | true ↦ grow n s (loaded (get_or s r.at 0) r) ]
    ]

-- A symbol is decided by the top eight bits of the window. The window's first byte is the partition's at place at - 2, and `shifts` of
-- its bits are gone: they are the partition's bits from 8 * (at - 2) + shifts on. Whether all eight lie in it:
unfoldable pub decided_of : List ℕ → Reader → Bool
decided_of s r = leb (8 * (r.at - 2) + r.shifts + 8) (8 * length s)

-- one symbol: missing where one of the eight bits that decide it lies past the end; else 1 where the window is at least 256 * split; then
-- the doubling
unfoldable pub symbol_of : List ℕ → Reader → ℕ → Given Bool
symbol_of s r prob =
    elim (decided_of s r) [
      | false ↦ missing
      | true ↦ elim (leb (256 * split_of r.range prob) r.window) [
        | true ↦ given true (grow 7 s (chosen_of r (split_of r.range prob) true))
        | false ↦ given false (grow 7 s (chosen_of r (split_of r.range prob) false))
      ]
    ]

-- ---- init_bool_decoder (1255-1268): two bytes, zero past its end, and range 255; one byte or none may be opened
abbrev pub first_reader : List ℕ → Reader
first_reader s = record { at = 2; range = 255; shifts = 0; window = get_or s 0 0 * 256 + get_or s 1 0 }

-- ---- a reader is in range over s: its next byte's place is 2..length + 2, its range 128..255, its shifts since a load 0..7, and
-- its window below 65536 and a multiple of 2^shifts
unfoldable pub valid_of : List ℕ → Reader → Bool
valid_of s r =
    leb 2 r.at
    && (leb r.at (length s + 2)
    && (leb 128 r.range
    && (ltb r.range 256
    && (ltb r.shifts 8 && (ltb r.window 65536 && eqb (r.window % 2 ^ r.shifts) 0)))))

-- ---- the calls' answers: a value and the reader after it, or why there is none
abbrev pub ReadOf : Type 0 → Type 0
ReadOf A = Result (A × Reader) Unread

-- what a run gives, as a call answers it
abbrev pub to_read : {A : Type 0} → Given A → ReadOf A
to_read (given a r) = Ok (a, r)
to_read missing = Err U.Missing

-- `symbol`: refused where the reader is out of range
unfoldable pub symbol_answer : List ℕ → Reader → ℕ → ReadOf Bool
symbol_answer s r prob = elim (valid_of s r) [ true ↦ to_read (symbol_of s r prob) | false ↦ Err U.Refused ]

-- what stands for a reader where there is none
abbrev pub no_reader_of : Reader
no_reader_of = record { at = 0; range = 0; shifts = 0; window = 0 }

-- ---- the answer's number. Reading calls say only that a byte is missing: `short` is the number that the layer above gives that, 6 where
-- modes and 7 where tokens run out.
abbrev pub read_number_of : {A : Type 0} → ℕ → ReadOf A → ℕ
read_number_of short (Ok x) = 0
read_number_of short (Err U.Missing) = short
read_number_of short (Err U.Refused) = 9

-- ---- as facts
-- a reader over s from a range of at least `low`: after the split 1, between symbols 128
pub record From (low : ℕ) (s : List ℕ) (r : Reader) : Type 0 where
  pub placed : 2 ≤ r.at
  pub inside : r.at ≤ length s + 2
  pub least : low ≤ r.range
  pub most : r.range < 256
  pub few : r.shifts < 8
  pub small : r.window < 65536
  pub even : r.window % 2 ^ r.shifts ≡ 0

-- a reader in range
abbrev pub Valid : List ℕ → Reader → Type 0
Valid = From 128

-- ==== Grammars: what a part of a frame asks of its partition, symbols each with a probability, one after the other. A grammar
-- knows nothing of readers; `run` puts one under it.

-- a value is given at once, or a symbol with a probability is asked and what follows depends on it
pub data Reading (A : Type 0) : Type 0 where
  done : A → Reading A
  ask : ℕ → (Bool → Reading A) → Reading A

-- one part after another, which `do` writes
infixl 10 ◌>>=◌
abbrev pub ◌>>=◌ : {A B : Type 0} → Reading A → (A → Reading B) → Reading B
done a >>= f = f a
ask p k >>= f = ask p (λ b. k b >>= f)

-- one symbol: the RFC's read_bool at a probability (section 7.3, 1270-1313), B(p) in its tables (section 8, 1366)
abbrev pub symbol : ℕ → Reading Bool
symbol p = ask p done

-- the reader answers each question in turn; the first byte that is missing ends the run
unfoldable pub run : {A : Type 0} → Reading A → List ℕ → Reader → Given A
run (done a) s r = given a r
run (ask p k) s r = elim (symbol_of s r p) [ missing ↦ missing | given b r2 ↦ run (k b) s r2 ]

-- what every path of a grammar has: at most n symbols, each probability a byte, and P of every value that it can give
pub data Within {A : Type 0} (P : A → Type 0) : ℕ → Reading A → Type 0 where
  ends : {n : ℕ} {a : A} → P a → Within P n (done a)
  asks : {n p : ℕ} {k : Bool → Reading A} → p < 256 → ((b : Bool) → Within P n (k b)) → Within P (suc n) (ask p k)

-- ==== The symbols that a run asks and gets, as a list; a grammar that is answered by a list; a reader that answers a list.

-- a symbol with the probability that it was asked with
pub record CodedSymbol : Type 0 where
  pub prob : ℕ
  pub bit : Bool

-- the symbols that a run reads, in order; where one is missing, those before it. Its length is the count of M-103.
unfoldable pub trace : {A : Type 0} → Reading A → List ℕ → Reader → List CodedSymbol
trace (done a) s r = []
trace (ask p k) s r = elim (symbol_of s r p) [ missing ↦ [] | given b r2 ↦ record { prob = p; bit = b } ∷ trace (k b) s r2 ]

-- how many symbols a run reads; where one is missing, those before it
unfoldable pub count : {A : Type 0} → Reading A → List ℕ → Reader → ℕ
count m s r = length (trace m s r)

-- the grammar asks exactly these probabilities, and with these answers gives a
pub data Follows {A : Type 0} : Reading A → List CodedSymbol → A → Type 0 where
  stop : {a : A} → Follows (done a) [] a
  take : {p : ℕ} {k : Bool → Reading A} (b : Bool) {qs : List CodedSymbol} {a : A} → Follows (k b) qs a → Follows (ask p k) (record { prob = p; bit = b } ∷ qs) a

-- a reader over s answers these symbols, and is then at r2
pub data Answers (s : List ℕ) : Reader → List CodedSymbol → Reader → Type 0 where
  none : {r : Reader} → Answers s r [] r
  more : {r t r2 : Reader} {q : CodedSymbol} {qs : List CodedSymbol} → symbol_of s r q.prob ≡ given q.bit t → Answers s t qs r2 → Answers s r (q ∷ qs) r2
