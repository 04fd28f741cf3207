-- The loops, on plain values.
use Rattle.numbers.specs.Words.{ℕ, zero, suc, ◌+◌, ◌-◌, ◌*◌, ◌≤◌, ◌<◌, add-one, arith, ◌≡◌, refl, ◌∙◌, ap, List, length, get_or, set, Filled, filled_none, filled_next, filled_all}
use Rattle.reader.specs.declared.boolean.Reader.{Reader}
use Rattle.frame.specs.Header.{prob, probs_from, probs}
use Rattle.frame.specs.Tables.{default_probs, update_probs}
use Rattle.tile.specs.declared.Span.{Span}
use Rattle.frame.specs.Places.{partition_size, partition_start, partition_span, token_spans}
use Rattle.reader.specs.Reads.{Reads}
use Rattle.reader.specs.ReadsLaws.{reads_then, reads_done}

-- ---- the 1056 probabilities: whatever reads the rest from here reads all of them from r₀
pub record Going (s : List ℕ) (r₀ : Reader) (i : ℕ) (r : Reader) (table : List ℕ) : Type 0 where
  pub more : ℕ
  pub sum : i + more ≡ 1056
  pub whole : (v : List ℕ) (q : Reader) → Reads (probs_from more i table) s r v q → Reads probs s r₀ v q

pub going_start : {s : List ℕ} {r : Reader} {table : List ℕ} → table ≡ default_probs → Going s r 0 r table
unfolding probs
going_start e = record { more = 1056; sum = refl; whole = λ v q x. rw e at x }

module _ {s : List ℕ} {r₀ r : Reader} {i : ℕ} {table : List ℕ} (g : Going s r₀ i r table) where
  pub going_next : {ps : List ℕ} {a : ℕ} {q : Reader} → i < 1056 → ps ≡ update_probs → Reads (prob (get_or ps i 0) (get_or table i 0)) s r a q → Going s r₀ (i + 1) q (set table i a)
  unfolding probs_from
  going_next {ps} {a} {q} l e x = go g.more g.sum g.whole
    where
      go : (n : ℕ) → i + n ≡ 1056 → ((v : List ℕ) (q : Reader) → Reads (probs_from n i table) s r v q → Reads probs s r₀ v q) → Going s r₀ (i + 1) q (set table i a)
      go zero p w = absurd (omega arith)
      go (suc n) p w = record { more = n; sum = omega arith; whole = λ v t y. w v t (reads_then _ (rw e at x) y) }

  pub going_end : 1056 ≤ i → Reads probs s r₀ table r
  unfolding probs_from
  going_end l = go g.more g.sum g.whole
    where
      go : (n : ℕ) → i + n ≡ 1056 → ((v : List ℕ) (q : Reader) → Reads (probs_from n i table) s r v q → Reads probs s r₀ v q) → Reads probs s r₀ table r
      go zero p w = w table r (reads_done _ _ _)
      go (suc n) p w = absurd (omega arith)

-- ---- the token partitions: partition i starts at `at`
pub record Placing (b : List ℕ) (table count : ℕ) (tokens : List Span) (at i : ℕ) : Type 0 where
  pub cut : Filled tokens 8 (λ k. partition_span b table count k (partition_start b table count k)) i
  pub here : at ≡ partition_start b table count i
  pub small : at < 1000021 + 16777216 * i

pub placing_start : {b : List ℕ} {table count at : ℕ} {tokens : List Span} → length tokens ≡ 8 → at ≡ table + 3 * (count - 1) → table < 1000000 → count ≤ 8 → Placing b table count tokens at 0
unfolding partition_start
placing_start {tokens} e g h k = record { cut = filled_none tokens 8 _ e; here = g; small = omega arith }

module _ {b : List ℕ} {table count at i : ℕ} {tokens : List Span} (p : Placing b table count tokens at i) where
  pub placing_next : i < 8 → {x : Span} {z : ℕ} → x ≡ partition_span b table count i at → z ≡ partition_size b table count i → z < 16777216 → Placing b table count (set tokens i x) (at + z) (i + 1)
  unfolding partition_start
  placing_next l {x} {z} e g k =
      record {
        cut = filled_next x l (e ∙ ap (partition_span b table count i) p.here) p.cut;
        here = rw (add-one, p.here, g);
        small = omega (arith, p.small);
      }

  pub placing_end : 8 ≤ i → (tokens ≡ token_spans b table count) × (at ≡ partition_start b table count 8)
  unfolding token_spans
  placing_end l = let e : i ≡ 8 = omega (arith, p.cut.upto) in (filled_all l p.cut, p.here ∙ ap (partition_start b table count) e)
