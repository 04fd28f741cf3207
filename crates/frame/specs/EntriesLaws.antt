-- The entries of a header that was read: 1096 of them, each in -255..255.
use Rattle.std.specs.Prelude.{◌-◌, ◌<◌, ◌≡◌, ◌∷◌, ◌-ℤ◌}
use Rattle.numbers.specs.Words.{ℕ, zero, suc, arith, refl, ◌∙◌, ap, ⊎_elim, lit<, lt_or, le-ltb, lt-ltb, List, [], length, get_or, set, set_keeps, length_build, get_or_build, get_or_build_past, get_or_constant, ℤ, pos, negsuc, In, Each, of_le, ≤ℤ-trans, num, plainly, round, know_sub, unsigned_below, answered, w32}
use Rattle.frame.specs.Header.{CodedNumber, Four, Three, Segments, Filter, QuantIndices, Header, no_value}
use Rattle.frame.specs.Fine.{Small, FineFour, FineThree, FineSegments, FineFilter, FineQuantIndices, FineTaken}
use Rattle.frame.specs.Entries.{negative, value_of, stored_entries, four_from_of, three_from_of, with_segments_of, with_filter_of, with_quantizers_of, numbers, number_at_of, entries}

-- as the code makes it
pub value_plain : (sign size : ℕ) → sign ≡ 0 → pos size ≡ negative sign size
value_plain sign size e = rw e

pub value_negative : (sign size : ℕ) → (sign ≡ 0 → ⊥) → pos 0 -ℤ pos size ≡ negative sign size
value_negative zero size e = absurd (e refl)
value_negative (suc n) size e = refl

negative_in : (sign size : ℕ) → size < 256 → In (negsuc 254) (pos 255) (negative sign size)
negative_in zero size h = record { low = of_le (omega arith); high = of_le (omega arith) }
negative_in (suc n) size h =
    let k = know_sub (num (pos 0)) (plainly (unsigned_below {n = size} {m = 255} (omega arith))) in
    record { low = k.low; high = ≤ℤ-trans k.high (of_le (omega arith)) }

pub value_in : (x : CodedNumber) → Small x → In (negsuc 254) (pos 255) (value_of x)
value_in x h = negative_in x.sign x.size h

-- ---- each of the numbers before the coefficient probabilities is small, since each that is stored is
infixr 5 ◌▹◌
data Smalls : List (ℕ × CodedNumber) → Type 0 where
  nil : Smalls []
  ◌▹◌ : {e : ℕ × CodedNumber} {es : List (ℕ × CodedNumber)} → Small e.1 → Smalls es → Smalls (e ∷ es)

record AllSmall (l : List CodedNumber) : Type 0 where
  at : (i : ℕ) → Small (get_or l i no_value)

stored_small : {es : List (ℕ × CodedNumber)} (l : List CodedNumber) → Smalls es → AllSmall l → AllSmall (stored_entries es l)
stored_small l nil y = y
stored_small l (◌▹◌ {e} p q) y = stored_small (set l e.0 e.1) q (record { at = set_keeps Small l e.0 e.1 no_value p y.at })

four_small : (i : ℕ) {f : Four} (l : List CodedNumber) → FineFour f → AllSmall l → AllSmall (stored_entries (four_from_of i f) l)
four_small i l f y = stored_small l (f.a ▹ f.b ▹ f.c ▹ f.d ▹ nil) y

three_small : (i : ℕ) {t : Three} (l : List CodedNumber) → FineThree t → AllSmall l → AllSmall (stored_entries (three_from_of i t) l)
three_small i l t y = stored_small l (t.a ▹ t.b ▹ t.c ▹ nil) y

segments_small : (g : Segments) (l : List CodedNumber) → FineSegments g → AllSmall l → AllSmall (with_segments_of g l)
unfolding with_segments_of
segments_small g l f y =
    three_small 14 _ f.probs
    (four_small 10 _ f.features.levels
    (four_small 6 _ f.features.quantizers
    (stored_small l (f.on ▹ f.map ▹ f.features.absolute ▹ nil) y)))

filter_small : (g : Filter) (l : List CodedNumber) → FineFilter g → AllSmall l → AllSmall (with_filter_of g l)
unfolding with_filter_of
filter_small g l f y = stored_small l (f.level ▹ f.sharpness ▹ f.on ▹ f.deltas.intra ▹ f.deltas.small ▹ nil) y

quantizers_small : (g : QuantIndices) (l : List CodedNumber) → FineQuantIndices g → AllSmall l → AllSmall (with_quantizers_of g l)
unfolding with_quantizers_of
quantizers_small g l f y = stored_small l (f.base ▹ f.ydc ▹ f.y2dc ▹ f.y2ac ▹ f.uvdc ▹ f.uvac ▹ nil) y

numbers_small : (h : Header) → FineTaken h → AllSmall (numbers h)
unfolding numbers
numbers_small h f =
    quantizers_small h.quantizers _ f.quantizers
    (filter_small h.filter _ f.filter
    (segments_small h.segments _ f.segments (record { at = λ i. rw (get_or_constant 38 i no_value) (lit< tt) })))

pub number_small : (h : Header) → FineTaken h → (i : ℕ) → Small (number_at_of (numbers h) h.probs h.skip h.chance i)
unfolding number_at_of
number_small h f i =
    ⊎_elim
    (λ l. rw (lt-ltb i 38 l, number_at_of) ((numbers_small h f).at i))
    (λ l. ⊎_elim
    (λ k. rw (le-ltb i 38 l, lt-ltb i 1094 k, number_at_of) (f.probs (i - 38)))
    (λ k. ⊎_elim
    (λ j. rw (le-ltb i 38 l, le-ltb i 1094 k, lt-ltb i 1095 j, number_at_of) f.skip)
    (λ j. rw (le-ltb i 38 l, le-ltb i 1094 k, le-ltb i 1095 j, number_at_of) f.chance)
    (lt_or i 1095))
    (lt_or i 1094))
    (lt_or i 38)

-- what the code stores at i
pub value_stored : (h : Header) → FineTaken h → (i : ℕ) {first : List CodedNumber} {n : CodedNumber} {r : ℤ} → first ≡ numbers h → n ≡ number_at_of first h.probs h.skip h.chance i → r ≡ value_of n → round w32 r ≡ value_of (number_at_of (numbers h) h.probs h.skip h.chance i)
value_stored h f i e g k =
    (answered w32 (k ∙ ap value_of (g ∙ ap (λ l. number_at_of l h.probs h.skip h.chance i) e)) (value_in (number_at_of (numbers h) h.probs h.skip h.chance i) (number_small h f i)) tt).eq

module _ (h : Header) where
  pub entries_length : length (entries h) ≡ 1096
  unfolding entries
  entries_length = length_build 1096 _

  pub entries_each : FineTaken h → Each (negsuc 254) (pos 255) (entries h)
  unfolding entries
  entries_each f =
      record {
        at = λ i. ⊎_elim
            (λ l. rw (get_or_build 1096 (λ i. value_of (number_at_of (numbers h) h.probs h.skip h.chance i)) i (pos 0) l) (value_in (number_at_of (numbers h) h.probs h.skip h.chance i) (number_small h f i)))
            (λ l. rw (get_or_build_past 1096 (λ i. value_of (number_at_of (numbers h) h.probs h.skip h.chance i)) i (pos 0) l) (record { low = of_le (omega arith); high = of_le (omega arith) }))
            (lt_or i 1096);
      }
