-- One step of the code at a time: laws that this crate's proofs cite, and `table_done`, which callers of `probabilities` cite. What else
-- another crate cites stands in TokenLaws.
use Rattle.std.specs.Prelude.{◌+◌, ◌-◌, ◌*◌, ◌≤◌, ◌<◌, ◌≡◌, ◌&&◌}
use Rattle.numbers.specs.Words.{Some, None, ℕ, suc, add-one, arith, refl, sym, ◌∙◌, ap, Bool, true, false, eqb, ltb, leb, both_left, both_right, eq-eqb, eqb-true, leb-true, lt-ltb, ltb-true, ne_eqb, List, length, get_or, set, replicate, all_of_any, ℤ, pos, negsuc, le_z, wrap_z, Ok, Err}
use Rattle.header.specs.Header.{entry_count, probability_count}
use Rattle.reader.specs.declared.boolean.Reader.{Reader}
use Rattle.reader.specs.Reading.{Given, given, missing, ReadOf, to_read, valid_of, done, symbol, run, count}
use Rattle.reader.specs.Counts.{Took}
use Rattle.reader.specs.CountsLaws.{took_as, took_is, took_done, took_got, took_missing, took_stops, took_then, took_ends}
use Rattle.reader.specs.Extra.{extra}
use Rattle.reader.specs.ReadingLaws.{from_read, from_read_lem}
use Rattle.reader.specs.Token.{token}
use Rattle.reader.specs.declared.boolean.Counted.{Counted}
use Rattle.reader.specs.declared.boolean.Unread.TheVariants as U
use Rattle.coefficients.specs.Block.{category, magnitude, sign_of, signed_value, bands, zigzag, quantizer_at, context_after, magnitude_of, signed_of, numeric_of, number_answer, signed_answer, header_table, probabilities_at, probability_place, Coefficients, block_from, refused_block, block, block_of, sixteen_bits, block_arguments, block_call_of, block_by_header_of, table_of, block_reads, block_by_header_reads}

-- ---- positions
pub band_below : (n : ℕ) → get_or bands n 0 < 8
unfolding bands
band_below n = ltb-true _ _ (all_of_any (λ x. ltb x 8) bands 0 refl refl n)

pub place_below : (kind n ctx : ℕ) → kind < 4 → ctx < 3 → probability_place kind n ctx + 11 ≤ probability_count
unfolding probability_place
place_below kind n ctx k c = omega (arith, band_below n)

pub zigzag_below : (n : ℕ) → get_or zigzag n 0 < 16
unfolding zigzag
zigzag_below n = ltb-true _ _ (all_of_any (λ x. ltb x 16) zigzag 0 refl refl n)

pub quantizer_first : (n q0 q1 : ℕ) → n ≡ 0 → q0 ≡ quantizer_at n q0 q1
unfolding quantizer_at
quantizer_first n q0 q1 h = rw (eq-eqb n 0 h, quantizer_at)

pub quantizer_later : (n q0 q1 : ℕ) → (n ≡ 0 → ⊥) → q1 ≡ quantizer_at n q0 q1
unfolding quantizer_at
quantizer_later n q0 q1 h = rw (ne_eqb n 0 h, quantizer_at)

pub context_one : (t : ℕ) → t ≡ 2 → 1 ≡ context_after t
unfolding context_after
context_one t h = rw (eq-eqb t 2 h, context_after)

pub context_more : (t : ℕ) → (t ≡ 2 → ⊥) → 2 ≡ context_after t
unfolding context_after
context_more t h = rw (ne_eqb t 2 h, context_after)

-- ---- the number of a token, and its sign
module _ (s ps : List ℕ) (base : ℕ) (r : Reader) (x : ReadOf ℕ) {n : ℕ} (b : Took (extra ps) s r (from_read x) n) where
  pub category_missing : from_read x ≡ missing → (Err U.Missing ≡ to_read (run (category base ps) s r)) × (n ≡ count (category base ps) s r)
  category_missing e = took_is to_read (took_stops (λ v. done (base + v)) (extra ps) (took_as e refl b))

  pub category_got : {v : ℕ} {q : Reader} → x ≡ Ok (v, q) → (Ok (base + v, q) ≡ to_read (run (category base ps) s r)) × (n ≡ count (category base ps) s r)
  category_got {v} {q} e = took_is to_read (took_ends (λ v. done (base + v)) (extra ps) (took_as (ap from_read e) refl b) (took_done (base + v) s q))

-- what is promised of a token's number, and of it with its sign, n symbols read
abbrev pub Numbered : List ℕ → ℕ → Reader → ReadOf ℕ → ℕ → Type 0
Numbered s t r x n = (x ≡ magnitude_of s t r) × (n ≡ count (magnitude t) s r)

abbrev pub SignedRead : List ℕ → ℕ → ℕ → Reader → ReadOf ℤ → ℕ → Type 0
SignedRead s t q r x n = (x ≡ signed_of s t q r) × (n ≡ count (signed_value t q) s r)

pub magnitude_few : (s : List ℕ) (t : ℕ) (r : Reader) → t < 6 → Numbered s t r (Ok (t - 1, r)) 0
unfolding magnitude_of magnitude
magnitude_few s t r h =
    let e : magnitude t ≡ done (t - 1) = rw (lt-ltb t 6 h, magnitude) in
    let k : Took (magnitude t) s r (given (t - 1) r) 0 = rw e (took_done (t - 1) s r) in
    took_is to_read k

pub magnitude_at : (s : List ℕ) {t k : ℕ} (r : Reader) → t ≡ k → {x : ReadOf ℕ} {n : ℕ} → Numbered s k r x n → Numbered s t r x n
magnitude_at s r e p = rw e p

module _ (s : List ℕ) (t q : ℕ) (r : Reader) {x : ReadOf ℕ} {n : ℕ} (p : Numbered s t r x n) where
  pub number_took : Took (magnitude t) s r (from_read x) n
  unfolding magnitude_of
  number_took = record { gave = from_read_lem (run (magnitude t) s r) ∙ ap from_read (sym p.0); took = p.1 }

  pub signed_lost : from_read x ≡ missing → SignedRead s t q r (Err U.Missing) n
  unfolding signed_of signed_value
  signed_lost e = took_is to_read (took_stops _ (magnitude t) (took_as e refl number_took))

  module _ {v : ℕ} {r2 : Reader} (e : x ≡ Ok (v, r2)) where
    got : Took (magnitude t) s r (given v r2) n
    got = took_as (ap from_read e) refl number_took

    pub signed_missing : run (symbol 128) s r2 ≡ missing → SignedRead s t q r (Err U.Missing) n
    unfolding signed_of signed_value
    signed_missing f = took_is to_read (took_ends _ (magnitude t) got (took_stops _ (symbol 128) (took_missing f)))

    pub signed_got : {b : Bool} {r3 : Reader} → run (symbol 128) s r2 ≡ given b r3 → {z : ℤ} → z ≡ wrap_z (sign_of b (v * q)) → SignedRead s t q r (Ok (z, r3)) (n + 1)
    unfolding signed_of signed_value
    signed_got {b} {r3} f g = rw g (took_is to_read (took_then _ (magnitude t) got (took_ends _ (symbol 128) (took_got f) (took_done (wrap_z (sign_of b (v * q))) s r3))))

pub signed_took : (s : List ℕ) (t q : ℕ) (r : Reader) {x : ReadOf ℤ} {n : ℕ} → SignedRead s t q r x n → Took (signed_value t q) s r (from_read x) n
unfolding signed_of
signed_took s t q r p = record { gave = from_read_lem (run (signed_value t q) s r) ∙ ap from_read (sym p.0); took = p.1 }

-- ---- a block, one token at a time
module _ (table : List ℕ) (kind q0 q1 : ℕ) (s : List ℕ) (n ctx : ℕ) (z : Bool) (values : List ℤ) (r : Reader) where
  pub block_none : Took (block_from table kind q0 q1 0 n ctx z values) s r (given (record { end = n; values = values }) r) 0
  unfolding block_from
  block_none = took_done _ s r

  module _ (left : ℕ) {k : ℕ} where
    pub block_missing : Took (token (probabilities_at table kind n ctx) z) s r missing k → Took (block_from table kind q0 q1 (suc left) n ctx z values) s r missing k
    unfolding block_from
    block_missing e = took_stops _ (token (probabilities_at table kind n ctx) z) e

    module _ {t : ℕ} {q : Reader} (e : Took (token (probabilities_at table kind n ctx) z) s r (given t q) k) where
      pub block_ends : t ≡ 0 → Took (block_from table kind q0 q1 (suc left) n ctx z values) s r (given (record { end = n; values = values }) q) k
      unfolding block_from
      block_ends h = took_ends _ (token (probabilities_at table kind n ctx) z) e (rw (eq-eqb t 0 h) (took_done _ s q))

      pub block_zero : t ≡ 1 → {y : Given Coefficients} {j : ℕ} → Took (block_from table kind q0 q1 left (n + 1) 0 true values) s q y j → Took (block_from table kind q0 q1 (suc left) n ctx z values) s r y (k + j)
      unfolding block_from
      block_zero h u = took_then _ (token (probabilities_at table kind n ctx) z) e (rw (ne_eqb t 0 (λ g. omega arith), eq-eqb t 1 h) u)

      module _ (l : 2 ≤ t) {i : ℕ} where
        pub block_lost : Took (signed_value t (quantizer_at n q0 q1)) s q missing i → Took (block_from table kind q0 q1 (suc left) n ctx z values) s r missing (k + i)
        unfolding block_from
        block_lost f = took_then _ (token (probabilities_at table kind n ctx) z) e (rw (ne_eqb t 0 (λ h. omega arith), ne_eqb t 1 (λ h. omega arith)) (took_stops _ (signed_value t (quantizer_at n q0 q1)) f))

        pub block_number : {v : ℤ} {q2 : Reader} → Took (signed_value t (quantizer_at n q0 q1)) s q (given v q2) i → {y : Given Coefficients} {j : ℕ} → Took (block_from table kind q0 q1 left (n + 1) (context_after t) false (set values (get_or zigzag n 0) v)) s q2 y j → Took (block_from table kind q0 q1 (suc left) n ctx z values) s r y (k + (i + j))
        unfolding block_from
        block_number f u = took_then _ (token (probabilities_at table kind n ctx) z) e (rw (ne_eqb t 0 (λ h. omega arith), ne_eqb t 1 (λ h. omega arith)) (took_then _ (signed_value t (quantizer_at n q0 q1)) f u))

-- ---- what the public calls check
pub tests_two : {a b x y w : Bool} → a ≡ x → b ≡ y → a && b ≡ w → x && y ≡ w
tests_two e f h = rw (e, f) at h

pub tests_three : {a b c x y z w : Bool} → a ≡ x → b ≡ y → c ≡ z → a && (b && c) ≡ w → x && (y && z) ≡ w
tests_three e f g h = rw (e, f, g) at h

pub numeric_fact : (t : ℕ) → numeric_of t ≡ true → (2 ≤ t) × (t ≤ 11)
numeric_fact t e = (leb-true _ _ (both_left _ _ e), leb-true _ _ (both_right (leb 2 t) _ e))

module _ (s : List ℕ) (t : ℕ) (r : Reader) where
  pub number_refused : valid_of s r && numeric_of t ≡ false → Err U.Refused ≡ number_answer s t r
  unfolding number_answer
  number_refused e = rw (e, number_answer)

  pub number_good : valid_of s r && numeric_of t ≡ true → magnitude_of s t r ≡ number_answer s t r
  unfolding number_answer
  number_good e = rw (e, number_answer)

  module _ (q : ℕ) where
    pub signed_refused : valid_of s r && numeric_of t ≡ false → Err U.Refused ≡ signed_answer s t q r
    unfolding signed_answer
    signed_refused e = rw (e, signed_answer)

    pub signed_good : valid_of s r && numeric_of t ≡ true → signed_of s t q r ≡ signed_answer s t q r
    unfolding signed_answer
    signed_good e = rw (e, signed_answer)

pub small_next : (l : List ℤ) (n : ℕ) {b : Bool} {x : ℤ} → b ≡ sixteen_bits l n → x ≡ get_or l n (pos 0) → b && (le_z (negsuc 32767) x && le_z x (pos 32767)) ≡ sixteen_bits l (n + 1)
unfolding sixteen_bits
small_next l n e f = rw (add-one, e, f)

pub arguments_fact : (table : List ℕ) (kind ctx first : ℕ) → block_arguments table kind ctx first ≡ true → (length table ≡ probability_count) × ((kind < 4) × ((ctx < 3) × (first ≤ 1)))
arguments_fact table kind ctx first e =
    let e1 = both_right (eqb (length table) probability_count) _ e in
    let e2 = both_right (ltb kind 4) _ e1 in
    (eqb-true _ _ (both_left _ _ e), (ltb-true _ _ (both_left _ _ e1), (ltb-true _ _ (both_left _ _ e2), leb-true _ _ (both_right (ltb ctx 3) _ e2))))

module _ (s : List ℕ) (r : Reader) (table : List ℕ) (kind ctx first q0 q1 : ℕ) (old : List ℤ) where
  -- what the call promises of its answer, with the numbers behind it
  abbrev pub Decoded : Counted ℕ → List ℤ → Type 0
  Decoded a out = (record { answer = a.answer; out = out } ≡ block_call_of s r table kind ctx first q0 q1 old) × (a.reads ≡ block_reads s r table kind ctx first q0 q1 old)

  module _ (e : valid_of s r && (block_arguments table kind ctx first && sixteen_bits old 16) ≡ true) where
    pub decode_passed : block_of s r table kind ctx first q0 q1 old ≡ block_call_of s r table kind ctx first q0 q1 old
    unfolding block_call_of
    decode_passed = rw (e, block_call_of)

    pub reads_passed : count (block table kind q0 q1 ctx first old) s r ≡ block_reads s r table kind ctx first q0 q1 old
    unfolding block_reads
    reads_passed = rw (e, block_reads)

    pub passed : {a : Counted ℕ} {out : List ℤ} → (record { answer = a.answer; out = out } ≡ block_of s r table kind ctx first q0 q1 old) × (a.reads ≡ count (block table kind q0 q1 ctx first old) s r) → Decoded a out
    passed p = (p.0 ∙ decode_passed, p.1 ∙ reads_passed)

  module _ (e : valid_of s r && (block_arguments table kind ctx first && sixteen_bits old 16) ≡ false) where
    pub decode_refused : refused_block old ≡ block_call_of s r table kind ctx first q0 q1 old
    unfolding block_call_of
    decode_refused = rw (e, block_call_of)

    pub refused : Decoded (record { answer = Err U.Refused; reads = 0 }) old
    unfolding block_reads
    refused = (decode_refused, rw (e, block_reads))

-- ---- with a header
pub table_refused : (h : List ℤ) → (length h ≡ entry_count → ⊥) → None ≡ table_of h
unfolding table_of
table_refused h f = rw (ne_eqb _ _ f, table_of)

pub table_done : (h : List ℤ) {l : List ℕ} → length h ≡ entry_count → l ≡ header_table h → Some l ≡ table_of h
unfolding table_of
table_done h e f = rw (f, eq-eqb _ _ e, table_of)

module _ (s : List ℕ) (r : Reader) (h : List ℤ) (kind ctx first q0 q1 : ℕ) (old : List ℤ) where
  abbrev pub HeaderDecoded : Counted ℕ → List ℤ → Type 0
  HeaderDecoded a out = (record { answer = a.answer; out = out } ≡ block_by_header_of s r h kind ctx first q0 q1 old) × (a.reads ≡ block_by_header_reads s r h kind ctx first q0 q1 old)

  pub header_good : length h ≡ entry_count → {l : List ℕ} → l ≡ header_table h → {a : Counted ℕ} {out : List ℤ} → Decoded s r l kind ctx first q0 q1 old a out → HeaderDecoded a out
  unfolding block_by_header_of block_by_header_reads
  header_good e {l} f d =
      let p : block_call_of s r l kind ctx first q0 q1 old ≡ block_by_header_of s r h kind ctx first q0 q1 old = rw (f, eq-eqb _ _ e, block_by_header_of) in
      let q : block_reads s r l kind ctx first q0 q1 old ≡ block_by_header_reads s r h kind ctx first q0 q1 old = rw (f, eq-eqb _ _ e, block_by_header_reads) in
      (d.0 ∙ p, d.1 ∙ q)

  pub header_refused : (length h ≡ entry_count → ⊥) → HeaderDecoded (record { answer = Err U.Refused; reads = 0 }) old
  unfolding block_by_header_of block_by_header_reads
  header_refused f = (rw (ne_eqb _ _ f, block_by_header_of), rw (ne_eqb _ _ f, block_by_header_reads))
