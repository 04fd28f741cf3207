-- The two calls at the bottom, as laws on plain values: a literal and a symbol.
use Rattle.numbers.specs.Words.{ℕ, zero, suc, ◌≤◌, ◌<◌, arith, ◌≡◌, refl, sym, ◌∙◌, ap, Bool, true, List, ◌∷◌, length, take, replicate, length-replicate, Ok, Err}
use Rattle.reader.specs.declared.boolean.Reader.{Reader}
use Rattle.reader.specs.declared.boolean.Unread.{Unread}
use Rattle.reader.specs.Reading.{ReadOf, given, valid_of, no_reader_of, symbol_answer, symbol, run}
use Rattle.reader.specs.ReadingLaws.{Bytes, valid_fact, symbol_refused, from_read, symboled, within_symbol}
use Rattle.reader.specs.Extra.{extra_answer}
use Rattle.reader.specs.ExtraLaws.{numbered, extra_within, extra_reader}
use Rattle.frame.specs.Header.{literal}
use Rattle.frame.specs.HeaderLaws.{halves_bytes}
use Rattle.reader.specs.Reads.{Reads}
use Rattle.reader.specs.ReadsLaws.{reads_got, reads_missing}

pub take_constant : {A : Type 0} (n m : ℕ) (v : A) → n ≤ m → take n (replicate m v) ≡ replicate n v
take_constant zero m v h = refl
take_constant (suc n) zero v h = absurd (omega arith)
take_constant (suc n) (suc m) v h = ap (λ l. v ∷ l) (take_constant n m v (omega arith))

abbrev pub halves : List ℕ
halves = replicate 8 128

pub taken_length : (n : ℕ) → n ≤ 8 → n ≡ length (take n halves)
taken_length n h = sym (ap length (take_constant {A = ℕ} n 8 128 h) ∙ length-replicate {A = ℕ} n 128)

module _ (s : List ℕ) (r : Reader) (n : ℕ) (h : n ≤ 8) {x : ReadOf ℕ} (e : x ≡ extra_answer s (take n halves) r) where
  same : x ≡ extra_answer s (replicate n 128) r
  same = rw (take_constant {A = ℕ} n 8 128 h) at e

  ran : valid_of s r ≡ true → run (literal n) s r ≡ from_read x
  unfolding literal
  ran v = numbered s (replicate n 128) r (valid_fact s r v) (rw (length-replicate {A = ℕ} n 128) (omega arith)) same

  pub literal_missing : {u : Unread} → x ≡ Err u → Reads (literal n) s r 0 no_reader_of
  literal_missing t = reads_missing 0 (λ v. ran v ∙ ap from_read t)

  pub literal_got : Bytes s → {a : ℕ} {q : Reader} → x ≡ Ok (a, q) → Reads (literal n) s r a q
  unfolding literal
  literal_got y {a} {q} f =
      reads_got (extra_within (replicate n 128) (halves_bytes n)) y (λ v. ran v ∙ ap from_read f) (λ v. let g = extra_reader s (replicate n 128) r v in let k = same in let z : ◌≡◌ {A = ℕ} 0 1 = cc in omega arith)

module _ (s : List ℕ) (r : Reader) (p : ℕ) {x : ReadOf Bool} (e : x ≡ symbol_answer s r p) where
  pub symbol_missing : (b : Bool) → {u : Unread} → x ≡ Err u → Reads (symbol p) s r b no_reader_of
  symbol_missing b t = reads_missing b (λ v. symboled s r p (valid_fact s r v) e ∙ ap from_read t)

  pub symbol_got : Bytes s → p < 256 → {b c : Bool} {q : Reader} → x ≡ Ok (b, q) → b ≡ c → Reads (symbol p) s r c q
  symbol_got y h {b} {c} {q} f k =
      reads_got (within_symbol h) y (λ v. symboled s r p (valid_fact s r v) e ∙ ap from_read f ∙ ap (λ (b : Bool). given b q) k) (λ v. let g = symbol_refused s r p v in let z : ◌≡◌ {A = ℕ} 0 1 = cc in omega arith)
