-- The turns of `read_block`'s loop, as laws on plain values: whatever is left to read from position n on gives and takes, the whole block gives,
-- and takes with the symbols read so far.
use Rattle.numbers.specs.Words.{ℕ, zero, suc, ◌+◌, ◌-◌, ◌*◌, ◌≤◌, ◌<◌, add-zero, zero-add, arith, ◌≡◌, refl, sym, ap, Bool, true, false, List, length, get_or, set, ℤ, round, there, w32, Ok, Err}
use Rattle.reader.specs.declared.boolean.Reader.{Reader}
use Rattle.reader.specs.Reading.{Given, given, missing, ReadOf, Reading, run, count}
use Rattle.reader.specs.ReadingLaws.{Bytes, Valid, ReadTo, run_valid, count_within, from_read}
use Rattle.reader.specs.declared.boolean.Unread.TheVariants as U
use Rattle.reader.specs.Counts.{Took, token_count}
use Rattle.reader.specs.CountsLaws.{took_as, token_took}
use Rattle.reader.specs.Token.{token, token_answer}
use Rattle.reader.specs.TokenLaws.{token_fits}
use Rattle.coefficients.specs.BlockLaws.{SixteenBits, signed_within}
use Rattle.coefficients.specs.BlockSteps.{SignedRead, signed_took, block_none, block_missing, block_ends, block_zero, block_lost, block_number}
use Rattle.coefficients.specs.Block.{signed_value, zigzag, probability_place, probabilities_at, quantizer_at, context_after, Coefficients, block_from, block, to_block_called}

-- `whole` from the reader r₀ is what is left of it after `reads` symbols: `more` positions from n on
abbrev On : (s table : List ℕ) (kind q0 q1 : ℕ) (whole : Reading Coefficients) (r₀ : Reader) (more n ctx : ℕ) (z : Bool) (r : Reader) (values : List ℤ) (reads : ℕ) → Type 0
On s table kind q0 q1 whole r₀ more n ctx z r values reads =
    (y : Given Coefficients) (j : ℕ) → Took (block_from table kind q0 q1 more n ctx z values) s r y j → Took whole s r₀ y (reads + j)

pub record Going (s table : List ℕ) (kind q0 q1 : ℕ) (whole : Reading Coefficients) (r₀ : Reader) (n ctx : ℕ) (z : Bool) (r : Reader) (values : List ℤ) (reads : ℕ) : Type 0 where
  pub more : ℕ
  pub sum : n + more ≡ 16
  pub on : On s table kind q0 q1 whole r₀ more n ctx z r values reads
  pub few : reads ≤ 19 * n
  pub valid : Valid s r
  pub near : ctx < 3

pub going_start : {s table : List ℕ} {kind q0 q1 ctx first : ℕ} {r : Reader} {values : List ℤ} → Valid s r → ctx < 3 → first ≤ 1 → Going s table kind q0 q1 (block table kind q0 q1 ctx first values) r first ctx false r values 0
going_start {first} v h l = record { more = 16 - first; sum = omega arith; on = λ y j t. took_as refl (sym (zero-add j)) t; few = omega arith; valid = v; near = h }

-- the last position was read
pub going_end : {s table : List ℕ} {kind q0 q1 : ℕ} {whole : Reading Coefficients} {r₀ : Reader} {n ctx : ℕ} {z : Bool} {r : Reader} {values : List ℤ} {reads : ℕ} → Going s table kind q0 q1 whole r₀ n ctx z r values reads → 16 ≤ n → Took whole s r₀ (given (record { end = 16; values = values }) r) reads
going_end {s} {table} {kind} {q0} {q1} {whole} {r₀} {n} {ctx} {z} {r} {values} {reads} g l =
    let none : g.more ≡ 0 = omega (arith, g.sum) in
    let last : n ≡ 16 = omega (arith, g.sum) in
    let t : Took whole s r₀ (given (record { end = n; values = values }) r) reads = took_as refl (add-zero reads) (g.on _ 0 (rw none (block_none table kind q0 q1 s n ctx z values r))) in
    rw last at t

-- a turn, once the code has asked its token and had the answer x for k symbols
pub record Turn (s table : List ℕ) (kind q0 q1 : ℕ) (whole : Reading Coefficients) (r₀ : Reader) (n ctx : ℕ) (z : Bool) (r : Reader) (values : List ℤ) (reads : ℕ) (x : ReadOf ℕ) (k : ℕ) : Type 0 where
  pub left : ℕ
  pub sum : n + 1 + left ≡ 16
  pub on : On s table kind q0 q1 whole r₀ (suc left) n ctx z r values reads
  pub few : reads ≤ 19 * n
  pub asked : Took (token (probabilities_at table kind n ctx) z) s r (from_read x) k
  pub short : k ≤ 7
  pub valid : Valid s r
  pub bytes : Bytes s
  pub probs : Bytes table

pub turn : {s table : List ℕ} {kind q0 q1 : ℕ} {whole : Reading Coefficients} {r₀ : Reader} {n ctx : ℕ} {z : Bool} {r : Reader} {values : List ℤ} {reads : ℕ} {x : ReadOf ℕ} {k at : ℕ} → Going s table kind q0 q1 whole r₀ n ctx z r values reads → n < 16 → at ≡ probability_place kind n ctx → at + 11 ≤ length table → (x ≡ token_answer s table at z r) × (k ≡ token_count s table at z r) → Bytes s → Bytes table → Turn s table kind q0 q1 whole r₀ n ctx z r values reads x k
turn {s} {table} {kind} {q0} {q1} {whole} {r₀} {n} {ctx} {z} {r} {values} {reads} {x} {k} {at} g l e i f y b = go g.more g.sum g.on
  where
    took : Took (token (probabilities_at table kind n ctx) z) s r (from_read x) k
    took = rw (← e) (token_took s table at z r g.valid i f)

    go : (m : ℕ) → n + m ≡ 16 → On s table kind q0 q1 whole r₀ m n ctx z r values reads → Turn s table kind q0 q1 whole r₀ n ctx z r values reads x k
    go zero p w = absurd (omega arith)
    go (suc m) p w = record { left = m; sum = omega arith; on = w; few = g.few; asked = took; short = omega (arith, took.took, count_within s r (token_fits table (probability_place kind n ctx) z b)); valid = g.valid; bytes = y; probs = b }

module _ {s table : List ℕ} {kind q0 q1 : ℕ} {whole : Reading Coefficients} {r₀ : Reader} {n ctx : ℕ} {z : Bool} {r : Reader} {values : List ℤ} {reads : ℕ} {x : ReadOf ℕ} {k : ℕ} (c : Turn s table kind q0 q1 whole r₀ n ctx z r values reads x k) where
  pub turn_missing : from_read x ≡ missing → Took whole s r₀ missing (reads + k)
  turn_missing h = c.on _ k (block_missing table kind q0 q1 s n ctx z values r c.left (took_as h refl c.asked))

  module _ {t : ℕ} {q : Reader} (h : x ≡ Ok (t, q)) where
    read : Took (token (probabilities_at table kind n ctx) z) s r (given t q) k
    read = took_as (ap from_read h) refl c.asked

    pub token_read : ReadTo (λ t. t < 12) s r t q
    token_read = run_valid (token_fits table (probability_place kind n ctx) z c.probs) c.bytes c.valid read.gave

    pub turn_ended : t ≡ 0 → Took whole s r₀ (given (record { end = n; values = values }) q) (reads + k)
    turn_ended e = c.on _ k (block_ends table kind q0 q1 s n ctx z values r c.left read e)

    pub turn_zero : t ≡ 1 → Going s table kind q0 q1 whole r₀ (n + 1) 0 true q values (reads + k)
    turn_zero e =
        record {
          more = c.left;
          sum = c.sum;
          on = λ y j u. took_as refl (omega arith) (c.on y (k + j) (block_zero table kind q0 q1 s n ctx z values r c.left read e u));
          few = omega (arith, c.few, c.short);
          valid = token_read.valid;
          near = omega arith;
        }

    -- the number after the token
    module _ (a : 2 ≤ t) {i : ℕ} (f : i ≡ quantizer_at n q0 q1) {v : ReadOf ℤ} {m : ℕ} (p : SignedRead s t i q v m) where
      follows : Took (signed_value t (quantizer_at n q0 q1)) s q (from_read v) m
      follows = rw (← f) (signed_took s t i q p)

      pub number_short : m ≤ 12
      number_short = omega (arith, follows.took, count_within s q (signed_within t (quantizer_at n q0 q1) a (omega (arith, token_read.value))))

      pub turn_lost : from_read v ≡ missing → Took whole s r₀ missing (reads + k + m)
      turn_lost o = took_as refl (omega arith) (c.on _ (k + m) (block_lost table kind q0 q1 s n ctx z values r c.left read a (took_as o refl follows)))

      -- the array keeps the number as the machine reads it back
      pub turn_number : {d : ℤ} {q2 : Reader} → v ≡ Ok (d, q2) → {near : ℕ} → (near ≡ context_after t) × (near < 3) → {w : ℕ} → w ≡ get_or zigzag n 0 → Going s table kind q0 q1 whole r₀ (n + 1) near false q2 (set values w (round w32 d)) (reads + k + m)
      turn_number {d} {q2} o g e =
          let u : Took (signed_value t (quantizer_at n q0 q1)) s q (given d q2) m = took_as (ap from_read o) refl follows in
          let b : ReadTo SixteenBits s q d q2 = run_valid (signed_within t (quantizer_at n q0 q1) a (omega (arith, token_read.value))) c.bytes token_read.valid u.gave in
          record {
            more = c.left;
            sum = c.sum;
            on = rw (g.0, e, (there w32 b.value tt).eq) (λ y j w. took_as refl (omega arith) (c.on y (k + (m + j)) (block_number table kind q0 q1 s n ctx z values r c.left read a u w)));
            few = omega (arith, c.few, c.short, number_short);
            valid = b.valid;
            near = g.1;
          }

-- what the code returns, with the numbers behind it
module _ (m : Reading Coefficients) (s : List ℕ) (r : Reader) (old : List ℤ) {k : ℕ} where
  pub called_missing : {out : List ℤ} → out ≡ old → Took m s r missing k → (record { answer = Err U.Missing; out = out } ≡ to_block_called old (run m s r)) × (k ≡ count m s r)
  called_missing e t = (rw (e, t.gave), t.took)

  pub called_ended : {n : ℕ} {values : List ℤ} {q : Reader} → Took m s r (given (record { end = n; values = values }) q) k → (record { answer = Ok (n, q); out = values } ≡ to_block_called old (run m s r)) × (k ≡ count m s r)
  called_ended t = (rw t.gave, t.took)
