-- Lists of symbols written: one list after another, and that what is written only grows, by a byte a symbol at most.
use Rattle.std.specs.Prelude.{◌+◌, ◌*◌, ◌≤◌, ◌<◌, ◌≡◌, ◌≢◌, ◌∷◌, ◌++◌}
use Rattle.numbers.specs.Words.{ℕ, zero, suc, arith, refl, ◌∙◌, ap, ⊎_elim, leb, lt_or, eq_or, eq-eqb, le-ltb, lt-ltb, ne_eqb, List, [], length, length-append}
use Rattle.reader.specs.Reading.{split_of, CodedSymbol}
use Rattle.reader.specs.ReadingLaws.{Each, Byte}
use Rattle.writer.specs.Encoder.{Encoder, fresh, carried, shift_out, emit, chosen, write_of, write_all, encode_of}
use Rattle.writer.specs.Code.{part_width, lifts_of, lifted_of, bits_of}
use Rattle.writer.specs.CodeLaws.{lifts_more, lifts_none}
use Rattle.writer.specs.EncoderLaws.{fresh_ready, wrote, flushed}
use Rattle.writer.specs.RoomLaws.{length_carries}

pub write_append : (e : Encoder) (xs ys : List CodedSymbol) → write_all e (xs ++ ys) ≡ write_all (write_all e xs) ys
unfolding write_all
write_append e [] ys = refl
write_append e (x ∷ xs) ys = write_append (write_of e x) xs ys

pub write_one : (e : Encoder) (q : CodedSymbol) → write_all e (q ∷ []) ≡ write_of e q
unfolding write_all
write_one e q = refl

pub write_none : (e : Encoder) → write_all e [] ≡ e
unfolding write_all
write_none e = refl

-- ---- it only grows
module _ (e : Encoder) where
  shift_long : e.count ≡ 1 → length (shift_out e).out ≡ length e.out + 1
  unfolding shift_out
  shift_long f = rw (eq-eqb _ _ f, shift_out) (length-append (carried (leb 2147483648 e.bottom) e.out) _ ∙ ap (λ (n : ℕ). n + 1) (length_carries (leb 2147483648 e.bottom) e.out))

  shift_same : (e.count ≢ 1) → length (shift_out e).out ≡ length e.out
  unfolding shift_out
  shift_same f = rw (ne_eqb _ _ f, shift_out) (length_carries (leb 2147483648 e.bottom) e.out)

  shift_grows : length e.out ≤ length (shift_out e).out
  shift_grows = ⊎_elim (λ (f : e.count ≡ 1). omega (arith, shift_long f)) (λ (f : e.count ≡ 1 → ⊥). omega (arith, shift_same f)) (eq_or e.count 1)

emit_grows : (n : ℕ) (e : Encoder) → length e.out ≤ length (emit n e).out
unfolding emit
emit_grows zero e = omega arith
emit_grows (suc n) e =
    ⊎_elim
    (λ (h : e.range < 128). rw (lt-ltb e.range 128 h, emit) (omega (arith, shift_grows e, emit_grows n (shift_out e))))
    (λ (h : 128 ≤ e.range). rw (le-ltb e.range 128 h, emit) (omega arith))
    (lt_or e.range 128)

write_more : (e : Encoder) (q : CodedSymbol) → length e.out ≤ length (write_of e q).out
unfolding write_of
write_more e q = emit_grows 7 (chosen e (split_of e.range q.prob) q.bit)

pub write_grows : (e : Encoder) (qs : List CodedSymbol) → length e.out ≤ length (write_all e qs).out
unfolding write_all
write_grows e [] = omega arith
write_grows e (q ∷ qs) = omega (arith, write_more e q, write_grows (write_of e q) qs)

-- ---- by a byte a symbol at most
lifts_few : (n w : ℕ) → lifts_of n w ≤ n
unfolding lifts_of
lifts_few zero w = omega arith
lifts_few (suc n) w =
    ⊎_elim
    (λ (h : w < 128). rw (lifts_more n w h) (omega (arith, lifts_few n (w * 2))))
    (λ (h : 128 ≤ w). rw (lifts_none n w h) (omega arith))
    (lt_or w 128)

bits_few : (qs : List CodedSymbol) (range : ℕ) → bits_of qs range ≤ 7 * length qs
unfolding bits_of
bits_few [] range = omega arith
bits_few (q ∷ qs) range = omega (arith, lifts_few 7 (part_width range q), bits_few qs (lifted_of 7 (part_width range q)))

pub write_few : (qs : List CodedSymbol) → Each Byte qs → length (write_all fresh qs).out ≤ length qs
write_few qs b =
    let w = wrote fresh qs fresh_ready b in
    omega (arith, w.place, w.ready.most, bits_few qs 255)

pub encode_long : (qs : List CodedSymbol) → Each Byte qs → length (encode_of qs) ≡ length (write_all fresh qs).out + 4
unfolding encode_of
encode_long qs b = (flushed (write_all fresh qs) (wrote fresh qs fresh_ready b).ready).long
