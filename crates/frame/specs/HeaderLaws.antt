-- The laws of the coded header: what a flag announces; that every header is fine, and how many symbols it asks at most, 9,730.
use Rattle.std.specs.Prelude.{◌+◌, ◌*◌, ◌^◌, ◌≤◌, ◌<◌, ◌≡◌}
use Rattle.numbers.specs.Words.{ℕ, zero, suc, arith, pow_mono, refl, Bool, true, false, ltb, lit<, lit≤, ltb-true, List, get_or, set, replicate, length-replicate, set_keeps, all_of_any}
use Rattle.header.specs.Header.{probability_count}
use Rattle.reader.specs.declared.boolean.Reader.{Reader}
use Rattle.reader.specs.ReadingLaws.{Bytes, within_bind, within_more, within_weaken, within_symbol}
use Rattle.reader.specs.Reads.{Reads}
use Rattle.reader.specs.ReadsLaws.{reads_done}
use Rattle.reader.specs.Reading.{Reading, Within, ends}
use Rattle.reader.specs.ExtraLaws.{extra_within}
use Rattle.frame.specs.Fine.{Small, FineFour, FineThree, FineFeatures, FineSegments, FineDeltas, FineFilter, FineQuantIndices, FineTaken}
use Rattle.frame.specs.Tables.{default_probs, update_probs}
use Rattle.frame.specs.Header.{literal, when, no_value, signed, four_signed, no_four, no_features_of, features, map_prob_of, no_probs_of, map_probs_of, no_segments_of, update, segments, no_deltas_of, deltas, deltas_update_of, filter, quantizers, chosen, prob, probs_from, probs, header}

-- ---- what a flag announces, in reading without a stop
module _ {A : Type 0} (a : A) (m : Reading A) {s : List ℕ} {r : Reader} where
  pub reads_not : (n : ℕ) → n ≡ 0 → Reads (when n a m) s r a r
  unfolding when
  reads_not n e = rw e (reads_done a s r)

  pub reads_when : (n : ℕ) {b : A} {q : Reader} → (n ≡ 0 → ⊥) → Reads m s r b q → Reads (when n a m) s r b q
  unfolding when
  reads_when zero e x = absurd (e refl)
  reads_when (suc k) e x = x

-- ---- literals
pub halves_bytes : (n : ℕ) → Bytes (replicate n 128)
halves_bytes zero i = lit< tt
halves_bytes (suc n) zero = lit< tt
halves_bytes (suc n) (suc i) = halves_bytes n i

pub literal_within : (n : ℕ) → Within (λ x. x < 2 ^ n) n (literal n)
unfolding literal
literal_within n = rw (length-replicate {A = ℕ} n 128) at (extra_within (replicate n 128) (halves_bytes n))

byte_within : (n : ℕ) → n ≤ 8 → Within (λ x. x < 256) n (literal n)
byte_within n h = within_weaken (λ x l. omega (arith, pow_mono {i = n} {j = 8} h)) (literal_within n)

when_within : {A : Type 0} {P : A → Type 0} {k : ℕ} (n : ℕ) (a : A) {m : Reading A} → P a → Within P k m → Within P k (when n a m)
unfolding when
when_within zero a p w = ends p
when_within (suc n) a p w = w

signed_within : (n : ℕ) → n ≤ 8 → Within Small (1 + (n + 1)) (signed n)
unfolding signed
signed_within n h =
    within_bind {k = n + 1} (byte_within 1 (lit≤ tt)) (λ g t. when_within g no_value (lit< tt) (
    within_bind {k = 1} (byte_within n h) (λ size l.
    within_bind {k = 0} (byte_within 1 (lit≤ tt)) (λ sign t. ends l))))

four_within : (n : ℕ) → n ≤ 8 → Within FineFour (1 + (n + 1) + (1 + (n + 1) + (1 + (n + 1) + (1 + (n + 1) + 0)))) (four_signed n)
unfolding four_signed
four_within n h =
    within_bind {k = 1 + (n + 1) + (1 + (n + 1) + (1 + (n + 1) + 0))} (signed_within n h) (λ x p.
    within_bind {k = 1 + (n + 1) + (1 + (n + 1) + 0)} (signed_within n h) (λ y q.
    within_bind {k = 1 + (n + 1) + 0} (signed_within n h) (λ z r.
    within_bind {k = 0} (signed_within n h) (λ w s. ends (record { a = p; b = q; c = r; d = s })))))

-- ---- segments
no_four_lem : FineFour no_four
no_four_lem = record { a = lit< tt; b = lit< tt; c = lit< tt; d = lit< tt }

features_within : Within FineFeatures 69 features
unfolding features
features_within =
    within_bind {k = 68} (byte_within 1 (lit≤ tt)) (λ a p.
    within_bind {k = 32} (four_within 7 (lit≤ tt)) (λ q f.
    within_bind {k = 0} (four_within 6 (lit≤ tt)) (λ l g. ends (record { absolute = p; quantizers = f; levels = g }))))

map_prob_within : Within (λ x. x < 256) 9 map_prob_of
unfolding map_prob_of
map_prob_within = within_bind {k = 8} (byte_within 1 (lit≤ tt)) (λ g t. when_within g 255 (lit< tt) (byte_within 8 (lit≤ tt)))

map_probs_within : Within FineThree 27 map_probs_of
unfolding map_probs_of
map_probs_within =
    within_bind {k = 18} map_prob_within (λ x p.
    within_bind {k = 9} map_prob_within (λ y q.
    within_bind {k = 0} map_prob_within (λ z r. ends (record { a = p; b = q; c = r }))))

no_features_lem : FineFeatures no_features_of
no_features_lem = record { absolute = lit< tt; quantizers = no_four_lem; levels = no_four_lem }

no_probs_lem : FineThree no_probs_of
no_probs_lem = record { a = lit< tt; b = lit< tt; c = lit< tt }

update_within : (on : ℕ) → on < 256 → Within FineSegments 98 (update on)
unfolding update
update_within on h =
    within_bind {k = 97} (byte_within 1 (lit≤ tt)) (λ m p.
    within_bind {k = 96} (byte_within 1 (lit≤ tt)) (λ c q.
    within_bind {k = 27} (when_within c no_features_of no_features_lem features_within) (λ f g.
    within_bind {k = 0} (when_within m no_probs_of no_probs_lem map_probs_within) (λ o t. ends (record { on = h; map = p; features = g; probs = t })))))

segments_within : Within FineSegments 99 segments
unfolding segments
segments_within =
    within_bind {k = 98} (byte_within 1 (lit≤ tt)) (λ on h.
    when_within on no_segments_of (record { on = lit< tt; map = lit< tt; features = no_features_lem; probs = no_probs_lem }) (update_within on h))

-- ---- filter
deltas_within : Within FineDeltas 64 deltas
unfolding deltas
deltas_within =
    within_bind {k = 32} (four_within 6 (lit≤ tt)) (λ f p.
    within_bind {k = 0} (four_within 6 (lit≤ tt)) (λ m q. ends (record { intra = p.a; small = q.a })))

no_deltas_lem : FineDeltas no_deltas_of
no_deltas_lem = record { intra = lit< tt; small = lit< tt }

deltas_update_within : Within FineDeltas 65 deltas_update_of
unfolding deltas_update_of
deltas_update_within = within_bind {k = 64} (byte_within 1 (lit≤ tt)) (λ u t. when_within u no_deltas_of no_deltas_lem deltas_within)

filter_within : Within FineFilter 76 filter
unfolding filter
filter_within =
    within_bind {k = 75} (byte_within 1 (lit≤ tt)) (λ k t.
    within_bind {k = 69} (byte_within 6 (lit≤ tt)) (λ l p.
    within_bind {k = 66} (byte_within 3 (lit≤ tt)) (λ s q.
    within_bind {k = 65} (byte_within 1 (lit≤ tt)) (λ o r.
    within_bind {k = 0} (when_within o no_deltas_of no_deltas_lem deltas_update_within) (λ d e. ends (record { level = p; sharpness = q; on = r; deltas = e }))))))

-- ---- quantizers
quantizers_within : Within FineQuantIndices 37 quantizers
unfolding quantizers
quantizers_within =
    within_bind {k = 30} (byte_within 7 (lit≤ tt)) (λ b p.
    within_bind {k = 24} (signed_within 4 (lit≤ tt)) (λ x q.
    within_bind {k = 18} (signed_within 4 (lit≤ tt)) (λ x r.
    within_bind {k = 12} (signed_within 4 (lit≤ tt)) (λ x s.
    within_bind {k = 6} (signed_within 4 (lit≤ tt)) (λ x t.
    within_bind {k = 0} (signed_within 4 (lit≤ tt)) (λ x u. ends (record { base = p; ydc = q; y2dc = r; y2ac = s; uvdc = t; uvac = u })))))))

-- ---- coefficient probabilities
default_bytes : Bytes default_probs
unfolding default_probs
default_bytes i = ltb-true (get_or default_probs i 0) 256 (all_of_any (λ x. ltb x 256) default_probs 0 refl refl i)

update_bytes : Bytes update_probs
unfolding update_probs
update_bytes i = ltb-true (get_or update_probs i 0) 256 (all_of_any (λ x. ltb x 256) update_probs 0 refl refl i)

prob_within : (p old : ℕ) → p < 256 → old < 256 → Within (λ x. x < 256) 9 (prob p old)
unfolding prob
prob_within p old h l = within_bind {k = 8} (within_symbol h) go
  where
    go : (b : Bool) → Unit {0} → Within (λ x. x < 256) 8 (chosen b old)
    go true t = byte_within 8 (lit≤ tt)
    go false t = ends l

probs_from_within : (n i : ℕ) (table : List ℕ) → Bytes table → Within Bytes (n * 9) (probs_from n i table)
unfolding probs_from
probs_from_within zero i table y = ends y
probs_from_within (suc n) i table y =
    within_more {n = 9 + n * 9} (omega arith)
    (within_bind {k = n * 9} (prob_within (get_or update_probs i 0) (get_or table i 0) (update_bytes i) (y i)) (λ p l. probs_from_within n (i + 1) (set table i p) (set_keeps (λ x. x < 256) table i p 0 l y)))

probs_within : Within Bytes 9504 probs
unfolding probs
probs_within = probs_from_within probability_count 0 default_probs default_bytes

-- ---- THE LAW of the coded header
pub header_within : Within FineTaken 9730 header
unfolding header
header_within =
    within_bind {k = 9729} (byte_within 1 (lit≤ tt)) (λ x t.
    within_bind {k = 9728} (byte_within 1 (lit≤ tt)) (λ x t.
    within_bind {k = 9629} segments_within (λ x p.
    within_bind {k = 9553} filter_within (λ x q.
    within_bind {k = 9551} (literal_within 2) (λ x r.
    within_bind {k = 9514} quantizers_within (λ x s.
    within_bind {k = 9513} (byte_within 1 (lit≤ tt)) (λ x t.
    within_bind {k = 9} probs_within (λ x u.
    within_bind {k = 8} (byte_within 1 (lit≤ tt)) (λ skip v.
    within_bind {k = 0} (when_within skip 0 (lit< tt) (byte_within 8 (lit≤ tt))) (λ x w.
    ends (record { segments = p; filter = q; partitions = r; quantizers = s; probs = u; skip = v; chance = w })))))))))))
