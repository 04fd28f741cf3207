-- The writer is the RFC's encoder: its numbers are, whatever the room; and as long as the room suffices, so are the bytes at its start, and
-- what lies behind them has not changed. Over too small a room nothing is said of the bytes, but the writer counts on.
use Rattle.std.specs.Prelude.{◌+◌, ◌-◌, ◌*◌, ◌/◌, ◌%◌, ◌^◌, ◌≤◌, ◌<◌, ◌≡◌, ◌∷◌, ◌++◌}
use Rattle.numbers.specs.Words.{ℕ, suc, add-one, mod-lt, mul-div-mul_right, mul-le-mul, mul-lt-mul_of_pos_right, arith, pow-add, pow_mono, pow_pos, twice, doubled, doubled_less, refl, sym, ◌∙◌, ap, subst, Bool, true, ⊎_elim, leb, lt_or, le-leb, lt-leb, List, [], length, get_or, set, take, drop, length-append, length-set, append_snoc, drop-append-add, drop-cons, drop-drop, length-sets, set_at, sets, sets-eq, take-append_seam}
use Rattle.reader.specs.Reading.{split_of, CodedSymbol}
use Rattle.reader.specs.ReadingLaws.{split_is, Byte}
use Rattle.wide.specs.Wide.{less32, doublings_of}
use Rattle.wide.specs.WideLaws.{Lifts, lifts}
use Rattle.writer.specs.Encoder.{Encoder, fresh, carried, emit, chosen, write_of, four_of, flush_of}
use Rattle.writer.specs.EncoderLaws.{Ready, chosen_ready, flushed}
use Rattle.writer.specs.Room.{Writer, Written, written_of, fresh_writer, carried_in, width_in, raised_in, loud_in, shifted_in, write_in, four_in, flush_in, writer_fine, FlushEnd, ended_of, flush_answer}
use Rattle.writer.specs.RoomLaws.{carried_append, length_carried, length_carries, fine_test, flush_good}
use Rattle.writer.specs.ShiftLaws.{scaled_mod, split_same, width_same, raised_same, doublings_same, shifts, emit_shifts, quiet, loudly, loud}

-- the encoder's numbers
abbrev pub writer_of : Encoder → Writer
writer_of e = record { at = length e.out; range = e.range; bottom = e.bottom; count = e.count }

-- the writer and the room x are the encoder e, over a room that was `old`
pub record Kept (e : Encoder) (old : List ℕ) (x : Written) : Type 0 where
  pub writer : x.writer ≡ writer_of e
  pub long : length x.room ≡ length old
  pub same : length e.out ≤ length old → x.room ≡ e.out ++ drop (length e.out) old

pub kept_fresh : (old : List ℕ) → Kept fresh old (written_of fresh_writer old)
kept_fresh old = record { writer = refl; long = refl; same = λ h. refl }

-- ---- the shifts of a symbol: e is the part that was chosen, and r, b the numbers before
module _ (e : Encoder) (old room : List ℕ) (k : Kept e old (written_of (writer_of e) room)) (y : Ready 1 e) (h : length e.out < 9223372036854775808) (r b : ℕ) where
  abbrev before : Writer
  before = record { at = length e.out; range = r; bottom = b; count = e.count }

  n : ℕ
  n = doublings_of e.range

  lifting : Lifts e.range (doublings_of e.range)
  lifting = lifts e.range y.least y.top

  all_shifts : emit 7 e ≡ shifts n e
  unfolding n
  all_shifts = emit_shifts 7 e ∙ ap (λ (j : ℕ). shifts j e) (sym (doublings_same e.range y.least y.top))

  -- the bottom fits, as long as the count lasts
  low_small : (j : ℕ) → j < e.count → e.bottom * 2 ^ j < 4294967296
  low_small j l =
      let a : e.bottom < 2 ^ (33 - e.count) = omega (arith, y.small, y.least) in
      let p : 33 - e.count + (e.count - 1) ≡ 32 = omega (arith, y.some, y.most) in
      let c : e.bottom * 2 ^ (e.count - 1) < 2 ^ (33 - e.count) * 2 ^ (e.count - 1) = mul-lt-mul_of_pos_right a (pow_pos (e.count - 1)) in
      doubled_less e.bottom j (e.count - 1) 4294967296 (omega arith) (subst (λ (x : ℕ). e.bottom * 2 ^ (e.count - 1) < x) (sym (pow-add 2 (33 - e.count) (e.count - 1)) ∙ ap (λ (x : ℕ). 2 ^ x) p) c)

  grown_same : e.range * 2 ^ (n % 32) % 2 ^ 32 ≡ e.range * 2 ^ n
  unfolding n
  grown_same =
      let z = lifting in
      let m : doublings_of e.range % 32 ≡ doublings_of e.range = omega (arith, z.few) in
      ap (λ (x : ℕ). e.range * 2 ^ x % 2 ^ 32) m ∙ omega (arith, z.most)

  quiet_kept : n < e.count → Kept (emit 7 e) old (shifted_in before room e.range e.bottom)
  unfolding n shifted_in
  quiet_kept l =
      let m : e.bottom * 2 ^ n < 4294967296 = low_small n l in
      let Q : Encoder = record { out = e.out; range = e.range * 2 ^ n; bottom = e.bottom * 2 ^ n; count = e.count - n } in
      let o : emit 7 e ≡ Q = all_shifts ∙ quiet n e l m in
      let c : e.bottom * 2 ^ n % 2 ^ 64 % 2 ^ 32 ≡ e.bottom * 2 ^ n = omega (arith, m) in
      let i : shifted_in before room e.range e.bottom ≡ written_of (writer_of Q) room =
      rw (lt-leb e.count (doublings_of e.range) l, shifted_in) (λ j. written_of (record { at = length e.out; range = grown_same j; bottom = c j; count = e.count - n }) room) in
      subst (λ (z : Encoder). Kept z old (shifted_in before room e.range e.bottom)) (sym o) (subst (Kept Q old) (sym i) (record { writer = refl; long = k.long; same = k.same }))

  -- ---- one of them writes a byte
  B : ℕ
  B = e.bottom * 2 ^ (e.count - 1)

  C : List ℕ
  C = carried (leb 2147483648 B) e.out

  v : ℕ
  v = B * 2 % 4294967296 / 16777216

  long_C : length C ≡ length e.out
  unfolding C
  long_C = length_carries (leb 2147483648 B) e.out

  carried_room : length e.out ≤ length old → carried_in (leb 2147483648 B) (length e.out) room ≡ C ++ drop (length e.out) old
  unfolding C
  carried_room g = ap (carried_in (leb 2147483648 B) (length e.out)) (k.same g) ∙ carried_append (leb 2147483648 B) e.out (drop (length e.out) old)

  snoc_long : length (C ++ (v ∷ [])) ≡ length e.out + 1
  snoc_long = length-append C (v ∷ []) ∙ ap (λ (m : ℕ). m + 1) long_C

  byte_same : length e.out + 1 ≤ length old → set (carried_in (leb 2147483648 B) (length e.out) room) (length e.out) v ≡ (C ++ (v ∷ [])) ++ drop (length e.out + 1) old
  byte_same g =
      let m : ℕ = length e.out in
      ap (λ (l : List ℕ). set l m v) (carried_room (omega arith) ∙ ap (λ (l : List ℕ). C ++ l) (drop-cons old m 0 (omega arith)))
      ∙ set_at C (get_or old m 0) (drop (suc m) old) v m long_C
      ∙ sym (append_snoc C v (drop (suc m) old))
      ∙ ap (λ (j : ℕ). (C ++ (v ∷ [])) ++ drop j old) (sym (add-one m))

  -- what is due, and what is left
  due : (j : ℕ) → e.count + j ≡ n → j < 8 → (e.bottom * 2 ^ n % 2 ^ 64 / 2 ^ (24 + j) ≡ B * 2 / 16777216) × (e.bottom * 2 ^ n % 2 ^ 64 % 2 ^ (24 + j) % 2 ^ 32 ≡ B * 2 % 16777216 * 2 ^ j)
  unfolding B n
  due j f l =
      let s : B < 4294967296 = low_small (e.count - 1) (omega (arith, y.some)) in
      let a : e.bottom * 2 ^ n ≡ B * 2 * 2 ^ j = sym (twice B j ∙ doubled e.bottom (e.count - 1) (suc j) n (omega (arith, y.some))) in
      let p : 2 ^ (24 + j) ≡ 16777216 * 2 ^ j = pow-add 2 24 j in
      let q : 2 ^ j ≤ 128 = pow_mono {i = j} {j = 7} (omega arith) in
      let m = mul-le-mul {n₁ = B * 2} {m₁ = 2 ^ j} {n₂ = 8589934592} {m₂ = 128} (omega arith) q in
      let d : e.bottom * 2 ^ n % 2 ^ 64 ≡ B * 2 * 2 ^ j = ap (λ (x : ℕ). x % 2 ^ 64) a ∙ omega (arith, m) in
      let t = mul-le-mul {n₁ = B * 2 % 16777216} {m₁ = 2 ^ j} {n₂ = 16777215} {m₂ = 128} (omega arith) q in
      let u : B * 2 * 2 ^ j % (16777216 * 2 ^ j) ≡ B * 2 % 16777216 * 2 ^ j = scaled_mod (B * 2) 16777216 (2 ^ j) (pow_pos j) in
      ((λ i. d i / p i) ∙ mul-div-mul_right {m = 2 ^ j} (B * 2) 16777216 (pow_pos j), (λ i. d i % p i % 2 ^ 32) ∙ ap (λ (x : ℕ). x % 2 ^ 32) u ∙ omega (arith, t))

  loud_kept : e.count ≤ n → Kept (emit 7 e) old (shifted_in before room e.range e.bottom)
  unfolding n B C v shifted_in loud_in
  loud_kept l =
      let z = lifting in
      let j : ℕ = n - e.count in
      let s : B < 4294967296 = low_small (e.count - 1) (omega (arith, y.some)) in
      let L : Encoder = loudly e n B in
      let o : emit 7 e ≡ L = all_shifts ∙ loud n e y.some l z.few s in
      let x : (24 + j) % 64 ≡ 24 + j = omega (arith, z.few) in
      let d = due j (omega arith) (omega (arith, z.few, y.some)) in
      let D : ℕ = e.bottom * 2 ^ n % 2 ^ 64 / 2 ^ ((24 + j) % 64) in
      let D_is : D ≡ B * 2 / 16777216 = ap (λ (i : ℕ). e.bottom * 2 ^ n % 2 ^ 64 / 2 ^ i) x ∙ d.0 in
      let low : e.bottom * 2 ^ n % 2 ^ 64 % 2 ^ ((24 + j) % 64) % 2 ^ 32 ≡ B * 2 % 4294967296 % 16777216 * 2 ^ j = ap (λ (i : ℕ). e.bottom * 2 ^ n % 2 ^ 64 % 2 ^ i % 2 ^ 32) x ∙ d.1 ∙ ap (λ (i : ℕ). i * 2 ^ j) {x = B * 2 % 16777216} {y = B * 2 % 4294967296 % 16777216} (omega arith) in
      let carry : leb 256 D ≡ leb 2147483648 B = ap (leb 256) D_is ∙ over B in
      let byte : D % 256 ≡ v = ap (λ (i : ℕ). i % 256) D_is ∙ omega (arith, s) in
      let at : (length e.out + 1) % 2 ^ 64 ≡ length (C ++ (v ∷ [])) = omega (arith, h) ∙ sym snoc_long in
      let left : less32 8 j ≡ 8 - j = omega (arith, z.few, y.some) in
      let R : List ℕ = set (carried_in (leb 2147483648 B) (length e.out) room) (length e.out) v in
      let i : shifted_in before room e.range e.bottom ≡ written_of (writer_of L) R =
      rw (le-leb e.count (doublings_of e.range) l, shifted_in)
      (λ q. written_of (record { at = at q; range = grown_same q; bottom = low q; count = left q }) (set (carried_in (carry q) (length e.out) room) (length e.out) (byte q))) in
      let K : Kept L old (written_of (writer_of L) R) =
      record {
        writer = refl;
        long = length-set (carried_in (leb 2147483648 B) (length e.out) room) (length e.out) v ∙ length_carried (leb 2147483648 B) (length e.out) room ∙ k.long;
        same = λ g. byte_same (omega (arith, snoc_long)) ∙ ap (λ (m : ℕ). (C ++ (v ∷ [])) ++ drop m old) (sym snoc_long);
      } in
      subst (λ (q : Encoder). Kept q old (shifted_in before room e.range e.bottom)) (sym o) (subst (Kept L old) (sym i) K)
    where
      over : (b : ℕ) → leb 256 (b * 2 / 16777216) ≡ leb 2147483648 b
      over b =
          ⊎_elim
          (λ (g : b < 2147483648). lt-leb 256 (b * 2 / 16777216) (omega arith) ∙ sym (lt-leb 2147483648 b g))
          (λ (g : 2147483648 ≤ b). le-leb 256 (b * 2 / 16777216) (omega arith) ∙ sym (le-leb 2147483648 b g))
          (lt_or b 2147483648)

  shifted_kept : Kept (emit 7 e) old (shifted_in before room e.range e.bottom)
  shifted_kept = ⊎_elim quiet_kept loud_kept (lt_or n e.count)

-- ---- THE LAWS for callers: a symbol, and the end
writer_fine_lem : (e : Encoder) → Ready 128 e → length e.out < 9223372036854775808 → writer_fine (writer_of e) ≡ true
writer_fine_lem e y h =
    fine_test (writer_of e) (record { some = y.some; near = h; least = y.least; most = y.top }) y.most
    (omega (arith, y.small, pow_mono {i = 33 - e.count} {j = 32} (omega (arith, y.some))))

module _ {e : Encoder} {old : List ℕ} {w : Writer} {room : List ℕ} (k : Kept e old (written_of w room)) (y : Ready 128 e) (h : length e.out < 9223372036854775808) where
  good : writer_fine w ≡ true
  good = subst (λ (z : Writer). writer_fine z ≡ true) (sym k.writer) (writer_fine_lem e y h)

  pub kept_write : (q : CodedSymbol) → Byte q → {z : Written} → z ≡ write_in w room q.prob q.bit → Kept (write_of e q) old z
  unfolding write_of write_in
  kept_write q b {z} f =
      let x : ℕ = split_of e.range q.prob in
      let i = split_is e.range q.prob (omega (arith, y.least)) b in
      let part : Encoder = chosen e x q.bit in
      let ready : Ready 1 part = chosen_ready e x q.bit y i.1 i.2 in
      let fits : e.bottom + e.range ≤ 4294967296 = omega (arith, y.small, pow_mono {i = 33 - e.count} {j = 32} (omega (arith, y.some))) in
      let K : Kept part old (written_of (writer_of part) room) = record { writer = refl; long = k.long; same = k.same } in
      let g : write_in w room q.prob q.bit ≡ shifted_in (writer_of e) room part.range part.bottom =
      ap (λ (n : Writer). write_in n room q.prob q.bit) k.writer
      ∙ ap (λ (n : ℕ). shifted_in (writer_of e) room (width_in e.range n q.bit) (raised_in e.bottom n q.bit)) (split_same e.range q.prob y.least y.top b)
      ∙ (λ j. shifted_in (writer_of e) room (width_same e.range x q.bit i.2 y.top j) (raised_same e.bottom x e.range q.bit fits i.2 j)) in
      subst (Kept (emit 7 part) old) (sym (f ∙ g)) (shifted_kept part old room K ready h e.range e.bottom)

pub record Finished (e : Encoder) (old : List ℕ) (x : FlushEnd) : Type 0 where
  pub long : x.long ≡ length (flush_of e)
  pub size : length x.room ≡ length old
  pub same : length (flush_of e) ≤ length old → x.room ≡ flush_of e ++ drop (length (flush_of e)) old

module _ (e : Encoder) (old room : List ℕ) (k : Kept e old (written_of (writer_of e) room)) (y : Ready 128 e) where
  c : Bool
  c = leb (2 ^ (32 - e.count)) e.bottom

  m : ℕ
  m = length e.out

  D : List ℕ
  D = carried (leb (2 ^ (32 - e.count)) e.bottom) e.out

  u : ℕ
  u = e.bottom * 2 ^ e.count % 4294967296

  long_D : length D ≡ m
  unfolding D m
  long_D = length_carries (leb (2 ^ (32 - e.count)) e.bottom) e.out

  taken_room : m ≤ length old → carried_in c m room ≡ D ++ drop m old
  unfolding c m D
  taken_room h = ap (carried_in (leb (2 ^ (32 - e.count)) e.bottom) (length e.out)) (k.same h) ∙ carried_append (leb (2 ^ (32 - e.count)) e.bottom) e.out (drop (length e.out) old)

  u_small : u < 4294967296
  unfolding u
  u_small = mod-lt (e.bottom * 2 ^ e.count) {m = 4294967296} (omega arith)

  four_sets : (l : List ℕ) → four_in l m u ≡ sets l m (four_of u)
  four_sets l =
      let t : u / 16777216 % 256 ≡ u / 16777216 = (let z = u_small in omega arith) in
      let one : m + 1 ≡ suc m = omega arith in
      let two : m + 2 ≡ suc (suc m) = omega arith in
      let three : m + 3 ≡ suc (suc (suc m)) = omega arith in
      λ i. set (set (set (set l m (t i)) (one i) (u / 65536 % 256)) (two i) (u / 256 % 256)) (three i) (u % 256)

  room_size : length (four_in (carried_in c m room) m u) ≡ length old
  room_size = ap length (four_sets (carried_in c m room)) ∙ length-sets (carried_in c m room) m (four_of u) ∙ length_carried c m room ∙ k.long

  room_same : m + 4 ≤ length old → four_in (carried_in c m room) m u ≡ (D ++ four_of u) ++ drop (m + 4) old
  room_same h =
      let r = carried_in c m room in
      let q : r ≡ D ++ drop m old = taken_room (omega arith) in
      let l : length r ≡ length old = length_carried c m room ∙ k.long in
      let a : take m r ≡ D = ap (take m) q ∙ ap (λ (z : ℕ). take z (D ++ drop m old)) (sym long_D) ∙ take-append_seam D (drop m old) in
      let d : drop (m + 4) r ≡ drop (m + 4) old =
      ap (drop (m + 4)) q ∙ ap (λ (z : ℕ). drop (z + 4) (D ++ drop m old)) (sym long_D) ∙ drop-append-add D (drop m old) 4 ∙ drop-drop 4 m old in
      four_sets r ∙ sets-eq (four_of u) r m (omega arith) ∙ (λ i. (a i ++ four_of u) ++ d i)

  flush_kept : {x : FlushEnd} → x ≡ ended_of (m + 4) (flush_in (writer_of e) room) → Finished e old x
  unfolding flush_in flush_of c m D u
  flush_kept {x} f =
      let g = flushed e y in
      let l : length (flush_of e) ≡ m + 4 = g.long in
      subst (Finished e old) (sym f)
      (record { long = sym l; size = room_size; same = λ h. room_same (omega (arith, l)) ∙ ap (λ (z : ℕ). (D ++ four_of u) ++ drop z old) (sym l) })

pub kept_flush : {e : Encoder} {old : List ℕ} {w : Writer} {room : List ℕ} → Kept e old (written_of w room) → Ready 128 e → length e.out < 9223372036854775808 → {x : FlushEnd} → x ≡ flush_answer w room → Finished e old x
unfolding m
kept_flush {e} {old} {w} {room} k y h {x} f =
    flush_kept e old room (subst (λ (z : Writer). Kept e old (written_of z room)) k.writer k) y
    (f ∙ sym (flush_good w room (good k y h)) ∙ ap (λ (z : Writer). ended_of (z.at + 4) (flush_in z room)) k.writer)
