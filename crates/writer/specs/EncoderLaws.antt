-- The encoder writes the code: its bytes, with `bottom` after them, are the exact bottom of the interval, whatever was carried. So what it
-- writes is read back.
use Rattle.std.specs.Prelude.{◌+◌, ◌-◌, ◌*◌, ◌/◌, ◌%◌, ◌^◌, ◌≤◌, ◌<◌, ◌≡◌, ◌≢◌, ◌∷◌, ◌++◌}
use Rattle.numbers.specs.Words.{ℕ, zero, suc, max, lt_of_mul-lt-mul_right, mul-lt-mul_of_pos_right, mul-one, pow-succ', arith, pow-add, pow_mono, pow_pos, twice, doubled, refl, sym, ◌∙◌, ap, subst, Bool, true, false, ⊎_elim, leb, lt_or, eq_or, eq-eqb, le-leb, le-ltb, lt-leb, lt-ltb, ne_eqb, List, [], length, length-append}
use Rattle.reader.specs.declared.boolean.Reader.{Reader}
use Rattle.reader.specs.Reading.{split_of, first_reader, given, Reading, run, Within, CodedSymbol, trace}
use Rattle.reader.specs.ReadingLaws.{Bytes, Valid, first_valid, split_is, Each, nil, cons, Byte, trace_bytes, recoded}
use Rattle.writer.specs.Code.{size, number, part_width, lifts_of, lifted_of, bits_of, code_of}
use Rattle.writer.specs.CodeLaws.{lifted, lifted_is, Holds, Decoded, decoded, lifts_more, lifts_none}
use Rattle.writer.specs.Encoder.{Encoder, offset_of, fresh, add_one_of, carried, shift_out, emit, chosen, write_of, write_all, four_of, flush_of, encode_of}
use Rattle.writer.specs.NumberLaws.{size_append, number_append, size_pow, size_same, bytes_append, length_add_one, bytes_add_one, number_carry}

-- the exact bottom
abbrev pub low_of : Encoder → ℕ
low_of e = number e.out * 2 ^ (32 - e.count) + e.bottom

-- an encoder in range, from a range of at least `least`: at most one carry is due, and there is a byte to take it
pub record Ready (lo : ℕ) (e : Encoder) : Type 0 where
  pub some : 1 ≤ e.count
  pub most : e.count ≤ 24
  pub least : lo ≤ e.range
  pub top : e.range < 256
  pub small : e.bottom + e.range ≤ 2 ^ (33 - e.count)
  pub fits : low_of e + e.range ≤ size e.out * 2 ^ (32 - e.count)
  pub bytes : Bytes e.out
  pub late : 8 < e.count → length e.out ≡ 0

pub fresh_ready : Ready 128 fresh
unfolding size number
fresh_ready = record { some = omega arith; most = omega arith; least = omega arith; top = omega arith; small = omega arith; fits = omega arith; bytes = λ i. omega arith; late = λ h. refl }

-- ---- a carry: what is left below T, and the bytes that took it
pub record Carry (out : List ℕ) (T bottom : ℕ) (out' : List ℕ) : Type 0 where
  pub rest : ℕ
  pub over : ℕ
  pub below : rest < T
  pub split : bottom ≡ rest + over * T
  pub same : number out' * T + rest ≡ number out * T + bottom
  pub long : length out' ≡ length out
  pub bytes : Bytes out'

pub carry : (out : List ℕ) (T bottom : ℕ) → bottom < T + T → number out * T + bottom < size out * T → Bytes out → Carry out T bottom (carried (leb T bottom) out)
unfolding carried
carry out T bottom h f y =
    ⊎_elim
    (λ (l : bottom < T). rw (lt-leb T bottom l) (record { rest = bottom; over = 0; below = l; split = omega arith; same = refl; long = refl; bytes = y }))
    (λ (l : T ≤ bottom).
    let g : (number out + 1) * T < size out * T = omega arith in
    let n : number (add_one_of (length out) out) ≡ number out + 1 = number_carry out (lt_of_mul-lt-mul_right T g) in
    rw (le-leb T bottom l)
    (record {
      rest = bottom - T;
      over = 1;
      below = omega arith;
      split = omega arith;
      same = rw n (omega arith);
      long = length_add_one (length out) out;
      bytes = bytes_add_one (length out) out y;
    }))
    (lt_or bottom T)

-- ---- k shifts on
pub record Moved (e e' : Encoder) (k : ℕ) : Type 0 where
  pub ready : Ready 1 e'
  pub low : low_of e' ≡ low_of e * 2 ^ k
  pub place : 8 * length e'.out + e.count ≡ 8 * length e.out + e'.count + k
  pub range : e'.range ≡ e.range * 2 ^ k

one_byte : (b : ℕ) → b < 256 → Bytes (b ∷ [])
one_byte b h zero = h
one_byte b h (suc i) = omega arith

module _ (e : Encoder) (y : Ready 1 e) (r : e.range < 128) where
  shift_byte : e.count ≡ 1 → Moved e (shift_out e) 1
  unfolding shift_out size number
  shift_byte f =
      let s : e.bottom + e.range ≤ 4294967296 = rw f at y.small in
      let g : number e.out * 2147483648 + e.bottom + e.range ≤ size e.out * 2147483648 = rw f at y.fits in
      let c : Carry e.out 2147483648 e.bottom (carried (leb 2147483648 e.bottom) e.out) = carry e.out 2147483648 e.bottom (omega (arith, y.least)) (omega (arith, y.least)) y.bytes in
      let o : List ℕ = carried (leb 2147483648 e.bottom) e.out in
      let d : e.bottom * 2 % 4294967296 ≡ c.rest * 2 = omega (arith, c.below, c.split) in
      let b : ℕ = c.rest * 2 / 16777216 in
      let bs : b < 256 = omega (arith, c.below) in
      let n : number (o ++ (b ∷ [])) ≡ number o * 256 + b = number_append o (b ∷ []) ∙ omega arith in
      let z : size (o ++ (b ∷ [])) ≡ size e.out * 256 = size_append o (b ∷ []) ∙ ap (λ (k : ℕ). k * 256) (size_same o e.out c.long) in
      let l : length (o ++ (b ∷ [])) ≡ length e.out + 1 = length-append o (b ∷ []) ∙ ap (λ (k : ℕ). k + 1) c.long in
      rw (eq-eqb _ _ f, shift_out, d)
      (record {
        ready = record {
          some = omega arith;
          most = omega arith;
          least = omega (arith, y.least);
          top = omega arith;
          small = omega arith;
          fits = rw (n, z) (omega (arith, c.same));
          bytes = bytes_append o (b ∷ []) c.bytes (one_byte b bs);
          late = λ h. absurd (omega arith);
        };
        low = rw (n, f) (omega (arith, c.same));
        place = omega (arith, l);
        range = omega arith;
      })

  -- one that writes none: there is no carry
  shift_only : (e.count ≢ 1) → Moved e (shift_out e) 1
  unfolding shift_out carried
  shift_only f =
      let p : 2 ^ (33 - e.count) ≤ 2147483648 = pow_mono {i = 33 - e.count} {j = 31} (omega (arith, y.some)) in
      let s : e.bottom < 2147483648 = omega (arith, y.least, y.small) in
      let d : e.bottom * 2 % 4294967296 ≡ e.bottom * 2 = omega arith in
      let a : 32 - (e.count - 1) ≡ suc (32 - e.count) = omega (arith, y.some, y.most) in
      let b : 33 - (e.count - 1) ≡ suc (33 - e.count) = omega (arith, y.some, y.most) in
      let t : 2 ^ suc (32 - e.count) ≡ 2 * 2 ^ (32 - e.count) = pow-succ' 2 (32 - e.count) in
      let u : 2 ^ suc (33 - e.count) ≡ 2 * 2 ^ (33 - e.count) = pow-succ' 2 (33 - e.count) in
      rw (ne_eqb _ _ f, shift_out, d, lt-leb 2147483648 e.bottom s)
      (record {
        ready = record {
          some = omega (arith, y.some);
          most = omega (arith, y.most);
          least = omega (arith, y.least);
          top = omega arith;
          small = rw (b, u) (omega (arith, y.small));
          fits = rw (a, t) (omega (arith, y.fits));
          bytes = y.bytes;
          late = λ h. y.late (omega arith);
        };
        low = rw (a, t) (omega arith);
        place = omega (arith, y.some);
        range = omega arith;
      })

  pub shift_moved : Moved e (shift_out e) 1
  shift_moved = ⊎_elim shift_byte shift_only (eq_or e.count 1)

-- ---- the shifts of a symbol
moved_none : (e : Encoder) → Ready 1 e → Moved e e 0
moved_none e y = record { ready = y; low = sym (mul-one (low_of e)); place = omega arith; range = sym (mul-one e.range) }

moved_then : {e f g : Encoder} {k : ℕ} → Moved e f 1 → Moved f g k → Moved e g (suc k)
moved_then {e} {f} {g} {k} a b =
    record {
      ready = b.ready;
      low = b.low ∙ ap (λ (x : ℕ). x * 2 ^ k) a.low ∙ twice (low_of e) k;
      place = omega (arith, a.place, b.place);
      range = b.range ∙ ap (λ (x : ℕ). x * 2 ^ k) a.range ∙ twice e.range k;
    }

pub emit_moved : (n : ℕ) (e : Encoder) → Ready 1 e → Moved e (emit n e) (lifts_of n e.range)
unfolding emit lifts_of
emit_moved zero e y = moved_none e y
emit_moved (suc n) e y =
    ⊎_elim
    (λ (h : e.range < 128).
    let m = shift_moved e y h in
    let i : Moved (shift_out e) (emit n (shift_out e)) (lifts_of n (shift_out e).range) = emit_moved n (shift_out e) m.ready in
    let j : Moved (shift_out e) (emit n (shift_out e)) (lifts_of n (e.range * 2)) = subst (λ (x : ℕ). Moved (shift_out e) (emit n (shift_out e)) (lifts_of n x)) m.range i in
    rw (lifts_more n e.range h) (rw (lt-ltb e.range 128 h, emit) (moved_then m j)))
    (λ (h : 128 ≤ e.range). rw (lifts_none n e.range h) (rw (le-ltb e.range 128 h, emit) (moved_none e y)))
    (lt_or e.range 128)

pub chosen_ready : (e : Encoder) (x : ℕ) (b : Bool) → Ready 128 e → 1 ≤ x → x < e.range → Ready 1 (chosen e x b)
chosen_ready e x true y l h =
    record { some = y.some; most = y.most; least = omega arith; top = omega (arith, y.top); small = omega (arith, y.small); fits = omega (arith, y.fits); bytes = y.bytes; late = y.late }
chosen_ready e x false y l h =
    record { some = y.some; most = y.most; least = omega arith; top = omega (arith, y.top); small = omega (arith, y.small); fits = omega (arith, y.fits); bytes = y.bytes; late = y.late }

-- ---- a list of symbols
pub record Wrote (e : Encoder) (qs : List CodedSymbol) (e' : Encoder) : Type 0 where
  pub ready : Ready 128 e'
  pub low : low_of e' ≡ low_of e * 2 ^ bits_of qs e.range + code_of qs e.range
  pub place : 8 * length e'.out + e.count ≡ 8 * length e.out + e'.count + bits_of qs e.range

two_steps : (low off k n x y D : ℕ) → x ≡ (low + off) * 2 ^ k → y ≡ x * 2 ^ n + D → y ≡ low * 2 ^ (k + n) + (off * 2 ^ (k + n) + D)
two_steps low off k n x y D e f =
    let g : (low + off) * 2 ^ k * 2 ^ n ≡ (low + off) * 2 ^ (k + n) = doubled (low + off) k n (k + n) refl in
    f ∙ ap (λ (z : ℕ). z * 2 ^ n + D) e ∙ omega (arith, g)

module _ (e : Encoder) (q : CodedSymbol) (y : Ready 128 e) (b : Byte q) where
  part : Encoder
  part = chosen e (split_of e.range q.prob) q.bit

  part_moved : Moved part (emit 7 part) (lifts_of 7 (part_width e.range q))
  unfolding part
  part_moved = let i = split_is e.range q.prob (omega (arith, y.least)) b in emit_moved 7 part (chosen_ready e (split_of e.range q.prob) q.bit y i.1 i.2)

  pub write_range : (write_of e q).range ≡ lifted_of 7 (part_width e.range q)
  unfolding write_of part
  write_range = part_moved.range ∙ sym (lifted_is 7 (part_width e.range q))

  pub write_ready : Ready 128 (write_of e q)
  unfolding write_of part
  write_ready =
      let r = part_moved.ready in
      let l = lifted e.range q y.least y.top b in
      record { some = r.some; most = r.most; least = rw write_range l.least; top = r.top; small = r.small; fits = r.fits; bytes = r.bytes; late = r.late }

  pub write_low : low_of (write_of e q) ≡ (low_of e + offset_of (split_of e.range q.prob) q.bit) * 2 ^ lifts_of 7 (part_width e.range q)
  unfolding write_of part
  write_low = part_moved.low ∙ omega arith

  pub write_place : 8 * length (write_of e q).out + e.count ≡ 8 * length e.out + (write_of e q).count + lifts_of 7 (part_width e.range q)
  unfolding write_of part
  write_place = part_moved.place

pub wrote : (e : Encoder) (qs : List CodedSymbol) → Ready 128 e → Each Byte qs → Wrote e qs (write_all e qs)
unfolding write_all bits_of code_of
wrote e [] y nil = record { ready = y; low = omega arith; place = omega arith }
wrote e (q ∷ qs) y (cons b bs) =
    let f : Encoder = write_of e q in
    let i = wrote f qs (write_ready e q y b) bs in
    let x : ℕ = split_of e.range q.prob in
    let w : ℕ = part_width e.range q in
    let r : f.range ≡ lifted_of 7 w = write_range e q y b in
    let l : low_of (write_all f qs) ≡ low_of f * 2 ^ bits_of qs (lifted_of 7 w) + code_of qs (lifted_of 7 w) = subst (λ (t : ℕ). low_of (write_all f qs) ≡ low_of f * 2 ^ bits_of qs t + code_of qs t) r i.low in
    let p : 8 * length (write_all f qs).out + f.count ≡ 8 * length f.out + (write_all f qs).count + bits_of qs (lifted_of 7 w) = subst (λ (t : ℕ). 8 * length (write_all f qs).out + f.count ≡ 8 * length f.out + (write_all f qs).count + bits_of qs t) r i.place in
    record {
      ready = i.ready;
      low = two_steps (low_of e) (offset_of x q.bit) (lifts_of 7 w) (bits_of qs (lifted_of 7 w)) (low_of f) _ _ (write_low e q y b) l;
      place = omega (arith, p, write_place e q y b);
    }

-- ---- the flush
four_bytes : (v : ℕ) → v < 4294967296 → Bytes (four_of v)
four_bytes v h zero = omega arith
four_bytes v h (suc zero) = omega arith
four_bytes v h (suc (suc zero)) = omega arith
four_bytes v h (suc (suc (suc zero))) = omega arith
four_bytes v h (suc (suc (suc (suc i)))) = omega arith

four_number : (v : ℕ) → v < 4294967296 → number (four_of v) ≡ v
unfolding number size
four_number v h = omega arith

pub record Flushed (e : Encoder) : Type 0 where
  pub value : number (flush_of e) ≡ low_of e * 2 ^ e.count
  pub long : length (flush_of e) ≡ length e.out + 4
  pub bytes : Bytes (flush_of e)

shifted_low : (N T C rest low : ℕ) → T * C ≡ 4294967296 → N * T + rest ≡ low → N * 4294967296 + rest * C ≡ low * C
shifted_low N T C rest low e f = ap (λ (x : ℕ). N * x + rest * C) (sym e) ∙ omega arith ∙ ap (λ (x : ℕ). x * C) f

top_rest : (b rest over T C : ℕ) → T * C ≡ 4294967296 → b ≡ rest + over * T → rest < T → 0 < C → (b * C % 4294967296 ≡ rest * C) × (rest * C < 4294967296)
top_rest b rest over T C e f l p =
    let g : rest * C < T * C = mul-lt-mul_of_pos_right l p in
    let h : b * C ≡ rest * C + over * 4294967296 = ap (λ (x : ℕ). x * C) f ∙ omega arith ∙ ap (λ (x : ℕ). rest * C + over * x) e in
    (rw h (omega arith), omega arith)

pub flushed : (e : Encoder) → Ready 128 e → Flushed e
unfolding flush_of size
flushed e y =
    let C : ℕ = 2 ^ e.count in
    let T : ℕ = 2 ^ (32 - e.count) in
    let d : 2 ^ (33 - e.count) ≡ 2 * T = ap (λ (k : ℕ). 2 ^ k) (up e.count y.most) ∙ pow-succ' 2 (32 - e.count) in
    let tc : T * C ≡ 4294967296 = sym (pow-add 2 (32 - e.count) e.count) ∙ ap (λ (k : ℕ). 2 ^ k) (whole e.count y.most) in
    let o : List ℕ = carried (leb T e.bottom) e.out in
    let c : Carry e.out T e.bottom o = carry e.out T e.bottom (omega (arith, y.small, y.least, d)) (omega (arith, y.fits, y.least)) y.bytes in
    let t = top_rest e.bottom c.rest c.over T C tc c.split c.below (pow_pos e.count) in
    let f : flush_of e ≡ o ++ four_of (c.rest * C) = ap (λ (v : ℕ). o ++ four_of v) t.0 in
    record {
      value = ap number f ∙ number_append o (four_of (c.rest * C)) ∙ ap (λ (x : ℕ). number o * 4294967296 + x) (four_number (c.rest * C) t.1) ∙ shifted_low (number o) T C c.rest (low_of e) tc c.same;
      long = ap length f ∙ length-append o (four_of (c.rest * C)) ∙ ap (λ (x : ℕ). x + 4) c.long;
      bytes = subst Bytes (sym f) (bytes_append o (four_of (c.rest * C)) c.bytes (four_bytes (c.rest * C) t.1));
    }
  where
    up : (c : ℕ) → c ≤ 24 → 33 - c ≡ suc (32 - c)
    up c h = omega arith

    whole : (c : ℕ) → c ≤ 24 → 32 - c + c ≡ 32
    whole c h = omega arith

-- ---- what was written is read back
first_holds : (s : List ℕ) (bits code : ℕ) → 2 ≤ length s → number s * 2 ^ bits * 256 ≡ code * size s → 8 + bits ≤ 8 * length s → Holds s (first_reader s) bits code
unfolding size number
first_holds [] bits code h e l = absurd (omega arith)
first_holds (a ∷ []) bits code h e l = absurd (omega arith)
first_holds (a ∷ b ∷ s) bits code h e l = record { same = omega arith; room = omega arith }

-- THE THEOREM: for every list of symbols, each with a byte for its probability, the encoder's bytes, read from their start with the same
-- probabilities, give the same bits and miss none
pub record Encoded (qs : List CodedSymbol) : Type 0 where
  pub bytes : Bytes (encode_of qs)
  pub long : 8 + bits_of qs 255 ≤ 8 * length (encode_of qs)
  -- how many bytes there are: what a pass that only counts doublings works out
  pub size : length (encode_of qs) ≡ max 4 (bits_of qs 255 / 8 + 2)
  pub read : Decoded (encode_of qs) (first_reader (encode_of qs)) qs

power : (code c bits m : ℕ) → c + bits + 8 ≡ m → code * 2 ^ c * 2 ^ bits * 256 ≡ code * 2 ^ m
power code c bits m e =
    ap (λ (x : ℕ). x * 256) (doubled code c bits (c + bits) refl) ∙ doubled code (c + bits) 8 m e

pub encoded : (qs : List CodedSymbol) → Each Byte qs → Encoded qs
unfolding encode_of number
encoded qs b =
    let e : Encoder = write_all fresh qs in
    let w : Wrote fresh qs e = wrote fresh qs fresh_ready b in
    let f = flushed e w.ready in
    let code : low_of e ≡ code_of qs 255 = w.low ∙ none (bits_of qs 255) (code_of qs 255) in
    let q : e.count + bits_of qs 255 + 8 ≡ 8 * length (flush_of e) = (let z = w.place in omega (arith, f.long)) in
    let v : number (flush_of e) * 2 ^ bits_of qs 255 * 256 ≡ code_of qs 255 * size (flush_of e) =
    ap (λ (x : ℕ). x * 2 ^ bits_of qs 255 * 256) (f.value ∙ ap (λ (x : ℕ). x * 2 ^ e.count) code)
    ∙ power (code_of qs 255) e.count (bits_of qs 255) (8 * length (flush_of e)) q
    ∙ ap (λ (x : ℕ). code_of qs 255 * x) (sym (size_pow (flush_of e))) in
    let l : 8 + bits_of qs 255 ≤ 8 * length (flush_of e) = omega arith in
    record {
      bytes = f.bytes;
      long = l;
      size = f.long ∙ ⊎_elim
          (λ (h : 8 < e.count). let z = w.ready.late h in let p = w.place in omega arith)
          (λ (h : e.count ≤ 8). let p = w.place in let s = w.ready.some in omega arith)
          (lt_or 8 e.count);
      read = decoded (flush_of e) (first_reader (flush_of e)) qs f.bytes b (first_valid (flush_of e) f.bytes) (first_holds (flush_of e) (bits_of qs 255) (code_of qs 255) (omega (arith, f.long)) v l);
    }
  where
    none : (n d : ℕ) → 0 * 2 ^ n + d ≡ d
    none n d = omega arith

-- for every grammar: recode what a run read, and the same grammar reads the same value from it
pub record Recoded {A : Type 0} (m : Reading A) (s : List ℕ) (r : Reader) (a : A) : Type 0 where
  pub last : Reader
  pub same : run m (encode_of (trace m s r)) (first_reader (encode_of (trace m s r))) ≡ given a last
  pub valid : Valid (encode_of (trace m s r)) last

pub recode : {A : Type 0} {P : A → Type 0} {n : ℕ} (m : Reading A) (s : List ℕ) (r : Reader) {a : A} {r2 : Reader} → Within P n m → run m s r ≡ given a r2 → Recoded m s r a
recode m s r w e =
    let d = (encoded (trace m s r) (trace_bytes s r w)).read in
    record { last = d.last; same = recoded m s r e d.answers; valid = d.valid }
