-- The laws of extra bits: what code and callers cite.
use Rattle.std.specs.Prelude.{◌+◌, ◌*◌, ◌^◌, ◌≤◌, ◌<◌, ◌≡◌, ◌∷◌}
use Rattle.numbers.specs.Words.{ℕ, suc, add-one, mul-one, one-mul, arith, pow_mono, twice, sym, ◌∙◌, ap, Bool, false, both_true, le-leb, bit_of, bit_small, List, [], length, get_or, drop, drop_of_length-le, drop-cons, Err}
use Rattle.reader.specs.declared.boolean.Unread.TheVariants as U
use Rattle.reader.specs.Reading.{Reader, given, missing, ReadOf, valid_of, done, ◌>>=◌, symbol, run, Within, ends, asks}
use Rattle.reader.specs.ReadingLaws.{Bytes, Valid, valid_test, run_done, run_then, run_stops, within_weaken, from_read, from_read_lem}
use Rattle.reader.specs.Extra.{extra_from, extra, extra_of, extra_answer}

-- ---- one bit at a time, at index i
module _ (ps : List ℕ) (v i : ℕ) where
  pub extra_ends : length ps ≤ i → extra_from v (drop i ps) ≡ done v
  unfolding extra_from
  extra_ends h = rw (drop_of_length-le ps h, extra_from)

  pub extra_asks : i < length ps → extra_from v (drop i ps) ≡ (symbol (get_or ps i 0) >>= λ b. extra_from (v + v + bit_of b) (drop (i + 1) ps))
  unfolding extra_from
  extra_asks h = rw (drop-cons ps i 0 h, add-one, extra_from)

module _ (s ps : List ℕ) (v i : ℕ) (r : Reader) where
  pub extra_end : length ps ≤ i → run (extra_from v (drop i ps)) s r ≡ given v r
  extra_end h = ap (λ m. run m s r) (extra_ends ps v i h) ∙ run_done v s r

  module _ (h : i < length ps) where
    pub extra_missing : run (symbol (get_or ps i 0)) s r ≡ missing → run (extra_from v (drop i ps)) s r ≡ missing
    extra_missing e = ap (λ m. run m s r) (extra_asks ps v i h) ∙ run_stops (λ b. extra_from (v + v + bit_of b) (drop (i + 1) ps)) s (symbol (get_or ps i 0)) r e

    pub extra_got : {b : Bool} {q : Reader} → run (symbol (get_or ps i 0)) s r ≡ given b q → run (extra_from v (drop i ps)) s r ≡ run (extra_from (v + v + bit_of b) (drop (i + 1) ps)) s q
    extra_got e = ap (λ m. run m s r) (extra_asks ps v i h) ∙ run_then (λ b. extra_from (v + v + bit_of b) (drop (i + 1) ps)) s (symbol (get_or ps i 0)) r e

-- every path asks as many symbols as there are probabilities, and gives a number of as many bits
extra_from_within : (ps : List ℕ) (v m : ℕ) → Bytes ps → v < m → Within (λ x. x < m * 2 ^ length ps) (length ps) (extra_from v ps)
unfolding extra_from
extra_from_within [] v m y h = let l : v < m * 2 ^ 0 = rw (mul-one m) h in ends l
extra_from_within (p ∷ ps) v m y h =
    asks (y 0) (λ b. within_weaken (λ x l. rw (twice m (length ps)) at l) (extra_from_within ps (v + v + bit_of b) (m * 2) (λ i. y (suc i)) (omega (arith, bit_small b))))

pub extra_within : (ps : List ℕ) → Bytes ps → Within (λ x. x < 2 ^ length ps) (length ps) (extra ps)
extra_within ps y = within_weaken (λ x l. rw (one-mul (2 ^ length ps)) at l) (extra_from_within ps 0 1 y (omega arith))

-- ---- the public call
module _ (s ps : List ℕ) (r : Reader) where
  pub extra_good : Valid s r → length ps ≤ 16 → extra_answer s ps r ≡ extra_of s ps r
  unfolding extra_answer
  extra_good v h = rw (both_true (valid_test s r v) (le-leb _ _ h), extra_answer)

  pub extra_reader : valid_of s r ≡ false → Err U.Refused ≡ extra_answer s ps r
  unfolding extra_answer
  extra_reader e = rw (e, extra_answer)

  -- THE LAW for callers of `extra_bits`
  pub numbered : Valid s r → length ps ≤ 16 → {x : ReadOf ℕ} → x ≡ extra_answer s ps r → run (extra ps) s r ≡ from_read x
  unfolding extra_of
  numbered v h f = from_read_lem (run (extra ps) s r) ∙ ap from_read (sym (f ∙ extra_good v h))

-- a number of few bits is small
pub bits_small : {v i n : ℕ} → v < 2 ^ i → i ≤ n → n ≤ 16 → v < 65536
bits_small {v} {i} {n} h l k = omega (arith, pow_mono {i = i} {j = 16} (omega arith))
