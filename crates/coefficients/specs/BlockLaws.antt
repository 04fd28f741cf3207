-- The laws of tokens and blocks that another crate cites.
use Rattle.std.specs.Prelude.{◌+◌, ◌-◌, ◌*◌, ◌^◌, ◌≤◌, ◌<◌, ◌≡◌, ◌&&◌}
use Rattle.numbers.specs.Words.{Option, Some, None, ℕ, zero, suc, arith, refl, sym, ◌∙◌, ap, Bool, true, false, inl, inr, ⊎_elim, eqb, ltb, leb, lit<, lt_or, eq_or, both_left, both_right, both_true, eq-eqb, le-leb, le-ltb, leb-true, lt-ltb, ltb-true, ne_eqb, List, [], length, get_or, set, get_or-eq_default, length-set, length_build, get_or_build, all_of, all_below, all_of_any, all_below_lem, ℤ, pos, negsuc, Each, le_true, each_set, wrap_z, wrap_in, Ok, Err}
use Rattle.reader.specs.declared.boolean.Reader.{Reader}
use Rattle.reader.specs.Reading.{Given, given, missing, ReadOf, valid_of, Reading, done, ask, symbol, ◌>>=◌, run, Within, ends, count}
use Rattle.reader.specs.ReadingLaws.{Bytes, Valid, valid_test, within_symbol, within_bind, within_more}
use Rattle.header.specs.Header.{coefficient_probability, entry_count, probability_count, entry, probability_of}
use Rattle.header.specs.HeaderLaws.{probability_below}
use Rattle.reader.specs.Counts as counts
use Rattle.reader.specs.Counts.{Costs}
use Rattle.reader.specs.CountsLaws.{costs_bind, extra_costs}
use Rattle.reader.specs.ExtraLaws.{extra_within}
use Rattle.reader.specs.Token.{token}
use Rattle.reader.specs.TokenLaws.{eleven_at_lem, token_fits}
use Rattle.coefficients.specs.BlockSteps.{place_below, decode_passed, reads_passed, table_refused, table_done}
use Rattle.coefficients.specs.Block.{categories, bases, category, magnitude, sign_of, signed_value, zigzag, quantizer_at, context_after, header_table, probabilities_at, probability_place, Coefficients, block_from, block, BlockCalled, to_block_called, block_of, sixteen_bits, block_arguments, block_call_of, table_of, block_reads}
pub use Rattle.coefficients.specs.Block.{SixteenBits}

-- ---- what each grammar gives, and how much it asks
-- the categories' tables: bytes, few of them, and every number from 1 to 2114
abbrev fine_of : ℕ → List ℕ → Bool
fine_of base ps = leb 1 base && (leb (base + 2 ^ length ps) 2115 && (leb (length ps) 11 && all_of (λ p. ltb p 256) ps))

categories_fine : all_below 6 (λ c. fine_of (get_or bases c 0) (get_or categories c [])) ≡ true
unfolding categories bases
categories_fine = refl

-- a token's number is 1..2114, and at most eleven symbols
abbrev pub Magnitude : ℕ → Type 0
Magnitude v = (1 ≤ v) × (v ≤ 2114)

category_within : (base : ℕ) (ps : List ℕ) → fine_of base ps ≡ true → Within Magnitude 11 (category base ps)
category_within base ps e =
    let e1 = both_right (leb 1 base) _ e in
    let e2 = both_right (leb (base + 2 ^ length ps) 2115) _ e1 in
    let l : 1 ≤ base = leb-true _ _ (both_left _ _ e) in
    let h : base + 2 ^ length ps ≤ 2115 = leb-true _ _ (both_left _ _ e1) in
    let k : length ps ≤ 11 = leb-true _ _ (both_left _ _ e2) in
    let y : Bytes ps = λ i. ltb-true _ _ (all_of_any (λ p. ltb p 256) ps 0 refl (both_right (leb (length ps) 11) _ e2) i) in
    within_more (omega arith) (within_bind {k = 0} (extra_within ps y) (λ v g. ends (omega arith, omega arith)))

pub magnitude_within : (t : ℕ) → 2 ≤ t → t ≤ 11 → Within Magnitude 11 (magnitude t)
unfolding magnitude
magnitude_within t l h =
    ⊎_elim
    (λ (k : t < 6). rw (lt-ltb t 6 k, magnitude) (ends {a = t - 1} (omega arith, omega arith)))
    (λ (k : 6 ≤ t). rw (le-ltb t 6 k, magnitude) (category_within _ _ (all_below_lem (λ c. fine_of (get_or bases c 0) (get_or categories c [])) 6 categories_fine (t - 6) (omega arith))))
    (lt_or t 6)

pub signed_within : (t q : ℕ) → 2 ≤ t → t ≤ 11 → Within SixteenBits 12 (signed_value t q)
unfolding signed_value
signed_within t q l h =
    within_bind {k = 1} (magnitude_within t l h) (λ v g. within_bind {k = 0} (within_symbol (lit< tt)) (λ b u. ends (wrap_in (sign_of b (v * q)))))

-- sixteen numbers of 16 bits
pub record Sixteen (values : List ℤ) : Type 0 where
  pub long : length values ≡ 16
  pub each : Each (negsuc 32767) (pos 32767) values

pub record Fine (first : ℕ) (x : Coefficients) : Type 0 where
  pub low : first ≤ x.end
  pub high : x.end ≤ 16
  pub values : Sixteen x.values

pub set_sixteen : {values : List ℤ} {v : ℤ} (i : ℕ) → Sixteen values → SixteenBits v → Sixteen (set values i v)
set_sixteen {values} {v} i x h = record { long = length-set values i v ∙ x.long; each = each_set values i x.each h }

module _ (table : List ℕ) (kind q0 q1 : ℕ) (y : Bytes table) (first : ℕ) where
  from_within : (left n ctx : ℕ) (z : Bool) (values : List ℤ) → first ≤ n → n + left ≡ 16 → Sixteen values → Within (Fine first) (left * 19) (block_from table kind q0 q1 left n ctx z values)
  unfolding block_from
  from_within zero n ctx z values l e x = ends (record { low = l; high = omega arith; values = x })
  from_within (suc left) n ctx z values l e x =
      within_more (omega arith) (within_bind {k = 12 + left * 19} (token_fits table (probability_place kind n ctx) z y) (λ t h.
      ⊎_elim
      (λ (a : t ≡ 0). rw (eq-eqb t 0 a) (ends (record { low = l; high = omega arith; values = x })))
      (λ (a : t ≡ 0 → ⊥).
      ⊎_elim
      (λ (b : t ≡ 1). rw (ne_eqb t 0 a, eq-eqb t 1 b) (within_more (omega arith) (from_within left (n + 1) 0 true values (omega arith) (omega arith) x)))
      (λ (b : t ≡ 1 → ⊥). rw (ne_eqb t 0 a, ne_eqb t 1 b) (within_bind {k = left * 19} (signed_within t (quantizer_at n q0 q1) (omega arith) (omega arith)) (λ v i. from_within left (n + 1) (context_after t) false (set values (get_or zigzag n 0) v) (omega arith) (omega arith) (set_sixteen (get_or zigzag n 0) x i))))
      (eq_or t 1))
      (eq_or t 0)))

  -- at most 19 symbols a position: 7 of the tree, 11 extra bits, 1 sign
  pub block_within : (ctx : ℕ) (values : List ℤ) → first ≤ 1 → Sixteen values → Within (Fine first) (19 * (16 - first)) (block table kind q0 q1 ctx first values)
  block_within ctx values l x = within_more (omega arith) (from_within (16 - first) first ctx false values (omega arith) (omega arith) x)

-- ---- a number
pub magnitude_small : (t : ℕ) → t < 6 → done (t - 1) ≡ magnitude t
unfolding magnitude
magnitude_small t h = rw (lt-ltb t 6 h, magnitude)

-- the symbols of a number: as many as its category has probabilities
unfoldable pub bits_of : ℕ → ℕ
bits_of t = elim (ltb t 6) [ true ↦ 0 | false ↦ length (get_or categories (t - 6) []) ]

pub magnitude_costs : (t : ℕ) → Costs (λ (v : ℕ). bits_of t) 0 (magnitude t)
unfolding magnitude bits_of
magnitude_costs t = ⊎_elim (few t) (many t) (lt_or t 6)
  where
    few : (t : ℕ) → t < 6 → Costs (λ (v : ℕ). bits_of t) 0 (magnitude t)
    few t k =
        let e : bits_of t ≡ 0 = rw (lt-ltb t 6 k, bits_of) in
        let f : magnitude t ≡ done (t - 1) = rw (lt-ltb t 6 k, magnitude) in
        rw (e, f) (counts.ends refl)

    many : (t : ℕ) → 6 ≤ t → Costs (λ (v : ℕ). bits_of t) 0 (magnitude t)
    many t k =
        let e : bits_of t ≡ length (get_or categories (t - 6) []) = rw (le-ltb t 6 k, bits_of) in
        let f : magnitude t ≡ category (get_or bases (t - 6) 0) (get_or categories (t - 6) []) = rw (le-ltb t 6 k, magnitude) in
        rw (e, f) (costs_bind (extra_costs (get_or categories (t - 6) [])) (λ v. counts.ends refl))

-- ---- what follows a token
then_then : {A B C : Type 0} (m : Reading A) (f : A → Reading B) (g : B → Reading C) → ((m >>= f) >>= g) ≡ (m >>= (λ a. f a >>= g))
then_then (done a) f g = refl
then_then (ask p k) f g = λ i. ask p (λ b. then_then (k b) f g i)

module _ (table : List ℕ) (kind q0 q1 left n : ℕ) (values : List ℤ) where
  -- what follows the token t
  unfoldable pub rest_of : ℕ → Reading Coefficients
  rest_of t =
      elim (eqb t 0) [
        | true ↦ done (record { end = n; values = values })
        | false ↦ elim (eqb t 1) [
          | true ↦ block_from table kind q0 q1 left (n + 1) 0 true values
          | false ↦ signed_value t (quantizer_at n q0 q1) >>= (λ v. block_from table kind q0 q1 left (n + 1) (context_after t) false (set values (get_or zigzag n 0) v))
        ]
      ]

  -- what follows a number and its context: its sign
  abbrev pub sign_on : ℕ → ℕ → Reading Coefficients
  sign_on ctx v = symbol 128 >>= (λ negative. block_from table kind q0 q1 left (n + 1) ctx false (set values (get_or zigzag n 0) (wrap_z (sign_of negative (v * quantizer_at n q0 q1)))))

  pub block_asks : (ctx : ℕ) (z : Bool) → block_from table kind q0 q1 (suc left) n ctx z values ≡ (token (probabilities_at table kind n ctx) z >>= rest_of)
  unfolding block_from rest_of
  block_asks ctx z = refl

  pub rest_ends : rest_of 0 ≡ done (record { end = n; values = values })
  unfolding rest_of
  rest_ends = refl

  pub rest_zero : rest_of 1 ≡ block_from table kind q0 q1 left (n + 1) 0 true values
  unfolding rest_of
  rest_zero = refl

  pub rest_number : (t : ℕ) → 2 ≤ t → rest_of t ≡ (magnitude t >>= sign_on (context_after t))
  unfolding rest_of signed_value
  rest_number t h =
      rw (ne_eqb t 0 (λ g. omega arith), ne_eqb t 1 (λ g. omega arith), rest_of)
      (then_then (magnitude t) (λ v. symbol 128 >>= (λ negative. done (wrap_z (sign_of negative (v * quantizer_at n q0 q1))))) (λ v. block_from table kind q0 q1 left (n + 1) (context_after t) false (set values (get_or zigzag n 0) v)))

pub block_none : (table : List ℕ) (kind q0 q1 n ctx : ℕ) (z : Bool) (values : List ℤ) → block_from table kind q0 q1 0 n ctx z values ≡ done (record { end = n; values = values })
unfolding block_from
block_none table kind q0 q1 n ctx z values = refl

-- ---- the public call of a block
-- what it asks of its arguments besides the reader
pub record Good (table : List ℕ) (kind ctx first : ℕ) (old : List ℤ) : Type 0 where
  pub size : length table ≡ probability_count
  pub kinds : kind < 4
  pub near : ctx < 3
  pub start : first ≤ 1
  pub each : Each (negsuc 32767) (pos 32767) old

small_test : (l : List ℤ) → Each (negsuc 32767) (pos 32767) l → (n : ℕ) → sixteen_bits l n ≡ true
unfolding sixteen_bits
small_test l e zero = refl
small_test l e (suc n) = both_true (small_test l e n) (both_true (le_true (e.at n).low) (le_true (e.at n).high))

good_tests : {s : List ℕ} {r : Reader} {table : List ℕ} {kind ctx first : ℕ} {old : List ℤ} → Valid s r → Good table kind ctx first old → valid_of s r && (block_arguments table kind ctx first && sixteen_bits old 16) ≡ true
good_tests {s} {r} {old} v g = both_true (valid_test s r v) (both_true (both_true (eq-eqb _ _ g.size) (both_true (lt-ltb _ _ g.kinds) (both_true (lt-ltb _ _ g.near) (le-leb _ _ g.start)))) (small_test old g.each 16))

-- what an answer, with the numbers behind it, says of the grammar
abbrev pub from_block : List ℤ → ReadOf ℕ → Given Coefficients
from_block l (Ok x) = given (record { end = x.0; values = l }) x.1
from_block l (Err u) = missing

abbrev from_block_called : BlockCalled → Given Coefficients
from_block_called c = from_block c.out c.answer

from_called : (old : List ℤ) (g : Given Coefficients) → g ≡ from_block_called (to_block_called old g)
from_called old (given x r) = refl
from_called old missing = refl

module _ (s : List ℕ) (r : Reader) (table : List ℕ) (kind ctx first q0 q1 : ℕ) (old : List ℤ) where
  -- with good arguments it is the inner definition
  pub decode_good : Valid s r → Good table kind ctx first old → block_of s r table kind ctx first q0 q1 old ≡ block_call_of s r table kind ctx first q0 q1 old
  decode_good v g =
      decode_passed s r table kind ctx first q0 q1 old (good_tests v g)

  -- THE LAWS for callers of `decode`: what it gave, and how many symbols it read
  pub decoded : Valid s r → Good table kind ctx first old → {x : ReadOf ℕ} {l : List ℤ} → record { answer = x; out = l } ≡ block_call_of s r table kind ctx first q0 q1 old → run (block table kind q0 q1 ctx first old) s r ≡ from_block l x
  unfolding block_of
  decoded v g e = from_called old (run (block table kind q0 q1 ctx first old) s r) ∙ ap from_block_called (sym (e ∙ sym (decode_good v g)))

  pub decode_reads_lem : Valid s r → Good table kind ctx first old → {n : ℕ} → n ≡ block_reads s r table kind ctx first q0 q1 old → n ≡ count (block table kind q0 q1 ctx first old) s r
  decode_reads_lem v g e = e ∙ sym (reads_passed s r table kind ctx first q0 q1 old (good_tests v g))

-- ---- a header's table
pub length_header : (h : List ℤ) → length (header_table h) ≡ probability_count
unfolding header_table
length_header h = length_build probability_count _

pub header_at : (h : List ℤ) (i : ℕ) → i < probability_count → get_or (header_table h) i 0 ≡ probability_of (entry h (coefficient_probability + i))
unfolding header_table
header_at h i l = get_or_build probability_count _ i 0 l

pub header_bytes : (h : List ℤ) → Bytes (header_table h)
header_bytes h i =
    ⊎_elim
    (λ (l : i < probability_count). rw (header_at h i l) (probability_below (entry h (coefficient_probability + i))))
    (λ (l : probability_count ≤ i). rw (get_or-eq_default (header_table h) 0 {n = i} (rw (length_header h) l)) (lit< tt))
    (lt_or i probability_count)

-- the eleven probabilities of a position are the header's, from entry coefficient_probability + ((kind * 8 + band) * 3 + ctx) * 11 on
pub header_probability : (h : List ℤ) (kind n ctx j : ℕ) → kind < 4 → ctx < 3 → j < 11 → get_or (probabilities_at (header_table h) kind n ctx) j 0 ≡ probability_of (entry h (coefficient_probability + (probability_place kind n ctx + j)))
header_probability h kind n ctx j k c l = eleven_at_lem (header_table h) (probability_place kind n ctx) j l ∙ header_at h (probability_place kind n ctx + j) (omega (arith, place_below kind n ctx k c))

-- what the table of an answer is
module _ (h : List ℤ) {x : Option (List ℕ)} (e : x ≡ table_of h) where
  pub table_taken : {b : List ℕ} → x ≡ Some b → (length h ≡ entry_count) × (b ≡ header_table h)
  table_taken {b} f =
      elim (eq_or (length h) entry_count) [
        | inl k ↦ let g : Some (header_table h) ≡ table_of h = table_done h k refl in let z : b ≡ header_table h = cc in (k, z)
        | inr k ↦ let g : None ≡ table_of h = table_refused h k in absurd (let z : ◌≡◌ {A = ℕ} 0 1 = cc in omega arith)
      ]

  pub table_not : x ≡ None → length h ≡ entry_count → ⊥
  table_not f k = let g : Some (header_table h) ≡ table_of h = table_done h k refl in let z : ◌≡◌ {A = ℕ} 0 1 = cc in omega arith
