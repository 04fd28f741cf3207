-- The coded header, read and written again: the steps of the proofs.
use Rattle.std.specs.Prelude.{◌+◌, ◌-◌, ◌≤◌, ◌<◌, ◌≡◌, ◌∷◌, ◌++◌}
use Rattle.numbers.specs.Words.{ℕ, zero, suc, arith, refl, sym, ◌∙◌, ap, subst, Bool, true, false, lit<, bit_of, List, [], length, get_or, set, replicate, length-replicate}
use Rattle.header.specs.Header.{probability_count}
use Rattle.reader.specs.declared.boolean.Reader.{Reader}
use Rattle.reader.specs.Reading.{given, Reading, done, ask, ◌>>=◌, symbol, run, CodedSymbol}
use Rattle.reader.specs.ReadingLaws.{Bytes, Valid, run_done}
use Rattle.wide.specs.declared.wide.Bit.{Bit}
use Rattle.wide.specs.declared.wide.Wide.{Wide}
use Rattle.wide.specs.Wide.{fill_of, wide_bit_of}
use Rattle.wide.specs.WideLaws.{Sim}
use Rattle.reader.specs.Extra.{extra_from}
use Rattle.writer.specs.declared.Writer.{Writer}
use Rattle.writer.specs.Encoder.{Encoder, write_of, write_all}
use Rattle.writer.specs.EncoderLaws.{Ready, write_ready}
use Rattle.writer.specs.WriteLaws.{write_append, write_one, write_none, write_grows}
use Rattle.writer.specs.Room.{written_of, write_in}
use Rattle.writer.specs.KeptLaws.{Kept, kept_write}
use Rattle.recode.specs.declared.pipe.Pipe.{Pipe}
use Rattle.recode.specs.Copies.{same, nothing, Going, Gave, Copies, bit_read, going_done, going_as, going_call}
use Rattle.recode.specs.TokenCopies.{Taking, taking_next, taking_end}
use Rattle.frame.specs.declared.fields.CodedNumber.{CodedNumber}
use Rattle.frame.specs.Tables.{default_probs, update_probs}
use Rattle.frame.specs.Header.{literal, when, no_value, signed, four_signed, no_features_of, features, map_prob_of, no_probs_of, map_probs_of, no_segments_of, update, segments, no_deltas_of, deltas, deltas_update_of, filter, quantizers, chosen, prob, probs_from, probs}
use Rattle.recode_frame.specs.RecodeFrame.{before_count, after_count, no_count}
use Rattle.recode_frame.specs.SplitLaws.{parted}

-- a part of which the caller sees nothing
abbrev pub Copied : {A : Type 0} → Reading A → List ℕ → Pipe → List ℕ → Pipe → List ℕ → Type 0
Copied m s p room q new = Copies nothing m s p room tt q new

-- ---- parts put together
module _ {A B : Type 0} {s : List ℕ} {see : A → B} {p : Pipe} {room : List ℕ} {b : B} where
  pub copies_done : {x : A} → b ≡ see x → Copies see (done x) s p room b p room
  copies_done e a r2 F old g = going_done g e

  pub copies_as : {m n : Reading A} {q : Pipe} {new : List ℕ} → m ≡ n → Copies see m s p room b q new → Copies see n s p room b q new
  copies_as {m} {n} {q} {new} e c = subst (λ (x : Reading A). Copies see x s p room b q new) e c

  pub copies_then : {D C : Type 0} {view : D → C} (m : Reading D) (f : D → Reading A) {v : C} {q : Pipe} {mid : List ℕ} {u : Pipe} {new : List ℕ} → Copies view m s p room v q mid → ((d : D) → v ≡ view d → Copies see (f d) s q mid b u new) → Copies see (m >>= f) s p room b u new
  copies_then m f c k a r2 F old g = let z = going_call m f g c in k z.d z.seen a r2 F old z.going

module _ {A : Type 0} {s : List ℕ} {p : Pipe} {room : List ℕ} where
  -- after the last one nothing is asked
  pub copied_last : {D : Type 0} (m : Reading D) (f : D → A) {q : Pipe} {new : List ℕ} → Copied m s p room q new → Copied (m >>= (λ d. done (f d))) s p room q new
  copied_last m f c = copies_then m (λ d. done (f d)) c (λ d e. copies_done refl)

  -- what a flag announces
  pub copied_when : (on : Bool) (a : A) (m : Reading A) {q : Pipe} {new : List ℕ} → on ≡ true → Copied m s p room q new → Copied (when (bit_of on) a m) s p room q new
  unfolding when
  copied_when on a m {q} {new} e c = subst (λ (b : Bool). Copied (when (bit_of b) a m) s p room q new) (sym e) c

  pub copied_not : (on : Bool) (a : A) (m : Reading A) → on ≡ false → Copied (when (bit_of on) a m) s p room p room
  unfolding when
  copied_not on a m e = subst (λ (b : Bool). Copied (when (bit_of b) a m) s p room p room) (sym e) (copies_done {see = nothing} {x = a} refl)

-- ---- literals
halves : (n i : ℕ) → i < n → ◌≡◌ {A = ℕ} (get_or (replicate n 128) i 0) 128
halves zero i h = absurd (omega arith)
halves (suc n) zero h = refl
halves (suc n) (suc i) h = halves n i (omega arith)

module _ {s : List ℕ} {p₀ : Pipe} {room₀ : List ℕ} {n i : ℕ} {p : Pipe} {room : List ℕ} (w : Taking s (replicate n 128) p₀ room₀ p i room) where
  pub bits_next : i < n → {b : Bool} {q : Pipe} {new : List ℕ} → Copies same (symbol 128) s p room b q new → length new ≡ length room → Taking s (replicate n 128) p₀ room₀ q (i + 1) new
  bits_next h {b} {q} {new} c k = taking_next w (rw (length-replicate {A = ℕ} n 128) h) (subst (λ (x : ℕ). Copies same (symbol x) s p room b q new) (sym (halves n i h)) c) k

  pub bits_end : n ≤ i → Copied (literal n) s p₀ room₀ p room
  unfolding literal
  bits_end h = taking_end w (rw (length-replicate {A = ℕ} n 128) h)

-- one bit is a flag
flag_is : literal 1 ≡ (symbol 128 >>= (λ b. done (bit_of b)))
unfolding literal extra_from
flag_is = λ i. ask 128 (λ b. go b i)
  where
    go : (b : Bool) → ◌≡◌ {A = Reading ℕ} (done (0 + 0 + bit_of b)) (done (bit_of b))
    go true = refl
    go false = refl

module _ {s : List ℕ} {p : Pipe} {room : List ℕ} {b : Bool} {q : Pipe} {new : List ℕ} (c : Copies same (symbol 128) s p room b q new) where
  pub flag : Copies same (literal 1) s p room (bit_of b) q new
  flag = copies_as (sym flag_is) (copies_then (symbol 128) (λ b. done (bit_of b)) c (λ d e. copies_done (ap bit_of e)))

  -- a flag, and what it announces
  pub flag_then : {A : Type 0} (f : ℕ → Reading A) {u : Pipe} {last : List ℕ} → Copied (f (bit_of b)) s q new u last → Copied (literal 1 >>= f) s p room u last
  flag_then f {u} {last} k = copies_then (literal 1) f flag (λ d e. subst (λ (x : ℕ). Copied (f x) s q new u last) e k)

  pub flag_when : {A : Type 0} (a : A) (m : Reading A) {u : Pipe} {last : List ℕ} → b ≡ true → Copied m s q new u last → Copied (literal 1 >>= (λ g. when g a m)) s p room u last
  flag_when a m e k = flag_then (λ g. when g a m) (copied_when b a m e k)

  pub flag_not : {A : Type 0} (a : A) (m : Reading A) → b ≡ false → Copied (literal 1 >>= (λ g. when g a m)) s p room q new
  flag_not a m e = flag_then (λ g. when g a m) (copied_not b a m e)

-- ---- a number with its sign
abbrev size_sign : ℕ → Reading CodedNumber
size_sign n = literal n >>= (λ size. literal 1 >>= (λ sign. done (record { sign = sign; size = size })))

module _ {s : List ℕ} {p : Pipe} {room : List ℕ} (n : ℕ) {b : Bool} {q : Pipe} {new : List ℕ} (c : Copies same (symbol 128) s p room b q new) where
  pub signed_not : b ≡ false → Copied (signed n) s p room q new
  unfolding signed
  signed_not e = flag_not c no_value (size_sign n) e

  pub signed_given : b ≡ true → {u v : Pipe} {mid last : List ℕ} → Copied (literal n) s q new u mid → Copied (literal 1) s u mid v last → Copied (signed n) s p room v last
  unfolding signed
  signed_given e x y =
      flag_when c no_value (size_sign n) e
      (copies_then (literal n) (λ size. literal 1 >>= (λ sign. done (record { sign = sign; size = size }))) x (λ d h. copied_last (literal 1) (λ sign. record { sign = sign; size = d }) y))

pub four_copied : (n : ℕ) {s : List ℕ} {p q u v w : Pipe} {room r1 r2 r3 r4 : List ℕ} → Copied (signed n) s p room q r1 → Copied (signed n) s q r1 u r2 → Copied (signed n) s u r2 v r3 → Copied (signed n) s v r3 w r4 → Copied (four_signed n) s p room w r4
unfolding four_signed
four_copied n x y z t =
    copies_then (signed n) (λ a. signed n >>= (λ b. signed n >>= (λ c. signed n >>= (λ d. done (record { a = a; b = b; c = c; d = d }))))) x (λ a _.
    copies_then (signed n) (λ b. signed n >>= (λ c. signed n >>= (λ d. done (record { a = a; b = b; c = c; d = d })))) y (λ b _.
    copies_then (signed n) (λ c. signed n >>= (λ d. done (record { a = a; b = b; c = c; d = d }))) z (λ c _.
    copied_last (signed n) (λ d. record { a = a; b = b; c = c; d = d }) t)))

-- ---- a probability, given anew or kept
module _ {s : List ℕ} {p : Pipe} {room : List ℕ} (chance old : ℕ) {b : Bool} {q : Pipe} {new : List ℕ} (c : Copies same (symbol chance) s p room b q new) where
  pub prob_kept : b ≡ false → Copied (prob chance old) s p room q new
  unfolding prob
  prob_kept e = copies_then (symbol chance) (λ g. chosen g old) c (λ d h. subst (λ (g : Bool). Copied (chosen g old) s q new q new) (sym e ∙ h) (copies_done {see = nothing} {x = old} refl))

  pub prob_given : b ≡ true → {u : Pipe} {last : List ℕ} → Copied (literal 8) s q new u last → Copied (prob chance old) s p room u last
  unfolding prob
  prob_given e {u} {last} x = copies_then (symbol chance) (λ g. chosen g old) c (λ d h. subst (λ (g : Bool). Copied (chosen g old) s q new u last) (sym e ∙ h) x)

-- that of the map's tree is one of them
map_prob_is : prob 128 255 ≡ map_prob_of
unfolding prob map_prob_of when
map_prob_is = (λ i. ask 128 (λ b. go b i)) ∙ (λ i. sym flag_is i >>= (λ g. when g 255 (literal 8)))
  where
    go : (b : Bool) → chosen b 255 ≡ when (bit_of b) 255 (literal 8)
    go true = refl
    go false = refl

pub map_copied : {s : List ℕ} {p q u v : Pipe} {room r1 r2 r3 : List ℕ} → ((old : ℕ) → Copied (prob 128 old) s p room q r1) → ((old : ℕ) → Copied (prob 128 old) s q r1 u r2) → ((old : ℕ) → Copied (prob 128 old) s u r2 v r3) → Copied map_probs_of s p room v r3
unfolding map_probs_of
map_copied x y z =
    copies_then map_prob_of (λ a. map_prob_of >>= (λ b. map_prob_of >>= (λ c. done (record { a = a; b = b; c = c })))) (copies_as map_prob_is (x 255)) (λ a _.
    copies_then map_prob_of (λ b. map_prob_of >>= (λ c. done (record { a = a; b = b; c = c }))) (copies_as map_prob_is (y 255)) (λ b _.
    copied_last map_prob_of (λ c. record { a = a; b = b; c = c }) (copies_as map_prob_is (z 255))))

-- ---- segments
pub features_copied : {s : List ℕ} {p q u v : Pipe} {room r1 r2 r3 : List ℕ} → Copied (literal 1) s p room q r1 → Copied (four_signed 7) s q r1 u r2 → Copied (four_signed 6) s u r2 v r3 → Copied features s p room v r3
unfolding features
features_copied x y z =
    copies_then (literal 1) (λ a. four_signed 7 >>= (λ b. four_signed 6 >>= (λ c. done (record { absolute = a; quantizers = b; levels = c })))) x (λ a _.
    copies_then (four_signed 7) (λ b. four_signed 6 >>= (λ c. done (record { absolute = a; quantizers = b; levels = c }))) y (λ b _.
    copied_last (four_signed 6) (λ c. record { absolute = a; quantizers = b; levels = c }) z))

module _ {s : List ℕ} {p : Pipe} {room : List ℕ} {on : Bool} {q : Pipe} {r1 : List ℕ} (c : Copies same (symbol 128) s p room on q r1) where
  pub segments_off : on ≡ false → Copied segments s p room q r1
  unfolding segments
  segments_off e = flag_then c (λ g. when g no_segments_of (update g)) (copied_not on no_segments_of (update (bit_of on)) e)

  pub segments_on_lem : on ≡ true → {map changes : Bool} {u v w x : Pipe} {r2 r3 r4 r5 : List ℕ} → Copies same (symbol 128) s q r1 map u r2 → Copies same (symbol 128) s u r2 changes v r3
      → Copied (when (bit_of changes) no_features_of features) s v r3 w r4 → Copied (when (bit_of map) no_probs_of map_probs_of) s w r4 x r5 → Copied segments s p room x r5
  unfolding segments update
  segments_on_lem e {map} {changes} m k f t =
      let o : ℕ = bit_of on in
      flag_then c (λ g. when g no_segments_of (update g)) (copied_when on no_segments_of (update o) e
      (flag_then m (λ a. literal 1 >>= (λ b. when b no_features_of features >>= (λ y. when a no_probs_of map_probs_of >>= (λ z. done (record { on = o; map = a; features = y; probs = z })))))
      (flag_then k (λ b. when b no_features_of features >>= (λ y. when (bit_of map) no_probs_of map_probs_of >>= (λ z. done (record { on = o; map = bit_of map; features = y; probs = z }))))
      (copies_then (when (bit_of changes) no_features_of features) (λ y. when (bit_of map) no_probs_of map_probs_of >>= (λ z. done (record { on = o; map = bit_of map; features = y; probs = z }))) f (λ y _.
      copied_last (when (bit_of map) no_probs_of map_probs_of) (λ z. record { on = o; map = bit_of map; features = y; probs = z }) t)))))

-- ---- the loop filter
module _ {s : List ℕ} {p : Pipe} {room : List ℕ} {on : Bool} {q : Pipe} {r1 : List ℕ} (c : Copies same (symbol 128) s p room on q r1) where
  pub deltas_kept : on ≡ false → Copied deltas_update_of s p room q r1
  unfolding deltas_update_of
  deltas_kept e = flag_not c no_deltas_of deltas e

  pub deltas_given : on ≡ true → {u v : Pipe} {r2 r3 : List ℕ} → Copied (four_signed 6) s q r1 u r2 → Copied (four_signed 6) s u r2 v r3 → Copied deltas_update_of s p room v r3
  unfolding deltas_update_of deltas
  deltas_given e x y =
      flag_when c no_deltas_of deltas e
      (copies_then (four_signed 6) (λ a. four_signed 6 >>= (λ b. done (record { intra = a.a; small = b.a }))) x (λ a _. copied_last (four_signed 6) (λ b. record { intra = a.a; small = b.a }) y))

pub filter_copied : {s : List ℕ} {p q u v w x : Pipe} {room r1 r2 r3 r4 r5 : List ℕ} {on : Bool} → Copied (literal 1) s p room q r1 → Copied (literal 6) s q r1 u r2 → Copied (literal 3) s u r2 v r3 → Copies same (symbol 128) s v r3 on w r4
    → Copied (when (bit_of on) no_deltas_of deltas_update_of) s w r4 x r5 → Copied filter s p room x r5
unfolding filter
filter_copied {on = on} a b c d e =
    copies_then (literal 1) (λ k. literal 6 >>= (λ l. literal 3 >>= (λ h. literal 1 >>= (λ o. when o no_deltas_of deltas_update_of >>= (λ z. done (record { kind = k; level = l; sharpness = h; on = o; deltas = z })))))) a (λ k _.
    copies_then (literal 6) (λ l. literal 3 >>= (λ h. literal 1 >>= (λ o. when o no_deltas_of deltas_update_of >>= (λ z. done (record { kind = k; level = l; sharpness = h; on = o; deltas = z }))))) b (λ l _.
    copies_then (literal 3) (λ h. literal 1 >>= (λ o. when o no_deltas_of deltas_update_of >>= (λ z. done (record { kind = k; level = l; sharpness = h; on = o; deltas = z })))) c (λ h _.
    flag_then d (λ o. when o no_deltas_of deltas_update_of >>= (λ z. done (record { kind = k; level = l; sharpness = h; on = o; deltas = z })))
    (copied_last (when (bit_of on) no_deltas_of deltas_update_of) (λ z. record { kind = k; level = l; sharpness = h; on = bit_of on; deltas = z }) e))))

pub before_copied : {s : List ℕ} {p q u v w : Pipe} {room r1 r2 r3 r4 : List ℕ} → Copied (literal 1) s p room q r1 → Copied (literal 1) s q r1 u r2 → Copied segments s u r2 v r3 → Copied filter s v r3 w r4 → Copied before_count s p room w r4
unfolding before_count
before_copied a b c d =
    copies_then (literal 1) (λ k. literal 1 >>= (λ l. segments >>= (λ h. filter >>= (λ o. done (record { colour = k; clamping = l; segments = h; filter = o }))))) a (λ k _.
    copies_then (literal 1) (λ l. segments >>= (λ h. filter >>= (λ o. done (record { colour = k; clamping = l; segments = h; filter = o })))) b (λ l _.
    copies_then segments (λ h. filter >>= (λ o. done (record { colour = k; clamping = l; segments = h; filter = o }))) c (λ h _.
    copied_last filter (λ o. record { colour = k; clamping = l; segments = h; filter = o }) d)))

-- ---- behind the count
pub quantizers_copied : {s : List ℕ} {p q u v w x y : Pipe} {room r1 r2 r3 r4 r5 r6 : List ℕ} → Copied (literal 7) s p room q r1 → Copied (signed 4) s q r1 u r2 → Copied (signed 4) s u r2 v r3 → Copied (signed 4) s v r3 w r4 → Copied (signed 4) s w r4 x r5 → Copied (signed 4) s x r5 y r6 → Copied quantizers s p room y r6
unfolding quantizers
quantizers_copied a b c d e f =
    copies_then (literal 7) (λ k. signed 4 >>= (λ l. signed 4 >>= (λ m. signed 4 >>= (λ n. signed 4 >>= (λ o. signed 4 >>= (λ z. done (record { base = k; ydc = l; y2dc = m; y2ac = n; uvdc = o; uvac = z }))))))) a (λ k _.
    copies_then (signed 4) (λ l. signed 4 >>= (λ m. signed 4 >>= (λ n. signed 4 >>= (λ o. signed 4 >>= (λ z. done (record { base = k; ydc = l; y2dc = m; y2ac = n; uvdc = o; uvac = z })))))) b (λ l _.
    copies_then (signed 4) (λ m. signed 4 >>= (λ n. signed 4 >>= (λ o. signed 4 >>= (λ z. done (record { base = k; ydc = l; y2dc = m; y2ac = n; uvdc = o; uvac = z }))))) c (λ m _.
    copies_then (signed 4) (λ n. signed 4 >>= (λ o. signed 4 >>= (λ z. done (record { base = k; ydc = l; y2dc = m; y2ac = n; uvdc = o; uvac = z })))) d (λ n _.
    copies_then (signed 4) (λ o. signed 4 >>= (λ z. done (record { base = k; ydc = l; y2dc = m; y2ac = n; uvdc = o; uvac = z }))) e (λ o _.
    copied_last (signed 4) (λ z. record { base = k; ydc = l; y2dc = m; y2ac = n; uvdc = o; uvac = z }) f)))))

-- the loop over the probabilities: at place i, with some table
pub record ProbsAt (s : List ℕ) (a : List ℕ) (r2 : Reader) (F : Encoder) (old : List ℕ) (p : Pipe) (i : ℕ) (room : List ℕ) : Type 0 where
  pub table : List ℕ
  pub going : Going s a r2 F old (probs_from (probability_count - i) i table) p room

pub record Probing (s : List ℕ) (p₀ : Pipe) (room₀ : List ℕ) (p : Pipe) (i : ℕ) (room : List ℕ) : Type 0 where
  pub most : i ≤ probability_count
  pub long : length room ≡ length room₀
  pub way : (a : List ℕ) (r2 : Reader) (F : Encoder) (old : List ℕ) → Going s a r2 F old probs p₀ room₀ → ProbsAt s a r2 F old p i room

pub probing_start : (s : List ℕ) (p : Pipe) (room : List ℕ) → Probing s p room p 0 room
unfolding probs
probing_start s p room = record { most = omega arith; long = refl; way = λ a r2 F old g. record { table = default_probs; going = g } }

probs_asks : (n i : ℕ) (table : List ℕ) → probs_from (suc n) i table ≡ (prob (get_or update_probs i 0) (get_or table i 0) >>= (λ p. probs_from n (i + 1) (set table i p)))
unfolding probs_from
probs_asks n i table = refl

probs_none : (i : ℕ) (table : List ℕ) → probs_from 0 i table ≡ done table
unfolding probs_from
probs_none i table = refl

module _ {s : List ℕ} {p₀ : Pipe} {room₀ : List ℕ} {p : Pipe} {i : ℕ} {room : List ℕ} (w : Probing s p₀ room₀ p i room) where
  pub probing_next : i < probability_count → {chance : ℕ} → chance ≡ get_or update_probs i 0 → {q : Pipe} {new : List ℕ} → ((old : ℕ) → Copied (prob chance old) s p room q new) → length new ≡ length room → Probing s p₀ room₀ q (i + 1) new
  probing_next h e {q} {new} c k =
      record {
        most = omega arith;
        long = k ∙ w.long;
        way = λ a r2 F old g.
            let t = w.way a r2 F old g in
            let n : ℕ = probability_count - (i + 1) in
            let f : probability_count - i ≡ suc n = omega arith in
            let d = going_call (prob (get_or update_probs i 0) (get_or t.table i 0)) (λ x. probs_from n (i + 1) (set t.table i x)) (going_as (ap (λ (l : ℕ). probs_from l i t.table) f ∙ probs_asks n i t.table) t.going) (subst (λ (x : ℕ). Copied (prob x (get_or t.table i 0)) s p room q new) e (c (get_or t.table i 0))) in
            record { table = set t.table i d.d; going = d.going };
      }

  pub probing_end : probability_count ≤ i → Copied probs s p₀ room₀ p room
  probing_end h a r2 F old g =
      let t = w.way a r2 F old g in
      let e : probability_count - i ≡ 0 = omega arith in
      going_done (going_as (ap (λ (l : ℕ). probs_from l i t.table) e ∙ probs_none i t.table) t.going) refl

module _ {s : List ℕ} {p q u v w : Pipe} {room r1 r2 r3 r4 : List ℕ} {skip : Bool} (a : Copied quantizers s p room q r1) (b : Copied (literal 1) s q r1 u r2) (c : Copied probs s u r2 v r3) (d : Copies same (symbol 128) s v r3 skip w r4) where
  after_copied : {x : Pipe} {r5 : List ℕ} → Copied (when (bit_of skip) 0 (literal 8)) s w r4 x r5 → Copied after_count s p room x r5
  unfolding after_count
  after_copied e =
      copies_then quantizers (λ k. literal 1 >>= (λ l. probs >>= (λ m. literal 1 >>= (λ n. when n 0 (literal 8) >>= (λ o. done (record { quantizers = k; refresh = l; probs = m; skip = n; chance = o })))))) a (λ k _.
      copies_then (literal 1) (λ l. probs >>= (λ m. literal 1 >>= (λ n. when n 0 (literal 8) >>= (λ o. done (record { quantizers = k; refresh = l; probs = m; skip = n; chance = o }))))) b (λ l _.
      copies_then probs (λ m. literal 1 >>= (λ n. when n 0 (literal 8) >>= (λ o. done (record { quantizers = k; refresh = l; probs = m; skip = n; chance = o })))) c (λ m _.
      flag_then d (λ n. when n 0 (literal 8) >>= (λ o. done (record { quantizers = k; refresh = l; probs = m; skip = n; chance = o })))
      (copied_last (when (bit_of skip) 0 (literal 8)) (λ o. record { quantizers = k; refresh = l; probs = m; skip = bit_of skip; chance = o }) e))))

  pub after_all : skip ≡ false → Copied after_count s p room w r4
  after_all e = after_copied (copied_not skip 0 (literal 8) e)

  pub after_chance : skip ≡ true → {x : Pipe} {r5 : List ℕ} → Copied (literal 8) s w r4 x r5 → Copied after_count s p room x r5
  after_chance e y = after_copied (copied_when skip 0 (literal 8) e y)

-- ---- a part read, and other symbols written in its place
abbrev pub Swapped : {A : Type 0} → Reading A → List CodedSymbol → List ℕ → Pipe → List ℕ → Pipe → List ℕ → Type 0
Swapped {A} m xs s p room q new =
    (a : A) (r r2 : Reader) (e : Encoder) (old : List ℕ) → Sim s p.reader r → Valid s r → run m s r ≡ given a r2 → Ready 128 e → Kept e old (written_of p.writer room)
    → length (write_all e xs).out < 9223372036854775808 → Gave nothing s a r2 (write_all e xs) old tt q new

abbrev pub no_bit : CodedSymbol
no_bit = record { prob = 128; bit = false }

pub bit_swapped : (s : List ℕ) (p : Pipe) (room : List ℕ) → Bytes s → length s < 9223372036854775808 → {full : Wide} {b : Bit} {w : Writer} {new : List ℕ} → full ≡ fill_of s p.reader → b ≡ wide_bit_of full 128 → written_of w new ≡ write_in p.writer room 128 false
    → Swapped (symbol 128) (no_bit ∷ []) s p room (record { reader = b.next; writer = w }) new
bit_swapped s p room y long {full} {b} {w} {new} f g k a r r2 e old sim valid gives ready kept small =
    let l : 128 < 256 = lit< tt in
    let n = bit_read s p.reader r 128 y long l sim valid gives f g in
    let F1 : write_of e no_bit ≡ write_all e (no_bit ∷ []) = sym (write_one e no_bit) in
    let few : length e.out < 9223372036854775808 = omega (arith, write_grows e (no_bit ∷ []), small) in
    record {
      value = refl;
      sim = n.sim;
      valid = n.valid;
      ready = subst (Ready 128) F1 (write_ready e no_bit ready l);
      kept = subst (λ (n : Encoder). Kept n old (written_of w new)) F1 (kept_write kept ready few no_bit l k);
    }

module _ {A : Type 0} {s : List ℕ} {p : Pipe} {room : List ℕ} where
  swapped_done : (x : A) → Swapped (done x) [] s p room p room
  swapped_done x a r r2 e old sim valid gives ready kept small =
      let i : given x r ≡ given a r2 = sym (run_done x s r) ∙ gives in
      let t : r ≡ r2 = cc in
      let n : e ≡ write_all e [] = sym (write_none e) in
      record {
        value = refl;
        sim = subst (Sim s p.reader) t sim;
        valid = subst (Valid s) t valid;
        ready = subst (Ready 128) n ready;
        kept = subst (λ (z : Encoder). Kept z old (written_of p.writer room)) n kept;
      }

  swapped_then : {D : Type 0} (m : Reading D) (f : D → Reading A) (xs ys : List CodedSymbol) {q : Pipe} {mid : List ℕ} {u : Pipe} {new : List ℕ} → Swapped m xs s p room q mid → ((d : D) → Swapped (f d) ys s q mid u new) → Swapped (m >>= f) (xs ++ ys) s p room u new
  swapped_then m f xs ys {q} {mid} {u} {new} x k a r r2 e old sim valid gives ready kept small =
      let t = parted m f s r gives in
      let h : write_all e (xs ++ ys) ≡ write_all (write_all e xs) ys = write_append e xs ys in
      let less : length (write_all e xs).out < 9223372036854775808 = omega (arith, write_grows (write_all e xs) ys, ap (λ (n : Encoder). length n.out) h, small) in
      let z = x t.value r t.next e old sim valid t.gives ready kept less in
      subst (λ (F : Encoder). Gave nothing s a r2 F old tt u new) (sym h)
      (k t.value a t.next r2 (write_all e xs) old z.sim z.valid t.then z.ready z.kept (omega (arith, ap (λ (n : Encoder). length n.out) h, small)))

-- the count's two bits
pub count_swapped : {s : List ℕ} {p q u : Pipe} {room mid new : List ℕ} → Swapped (symbol 128) (no_bit ∷ []) s p room q mid → Swapped (symbol 128) (no_bit ∷ []) s q mid u new → Swapped (literal 2) no_count s p room u new
unfolding literal extra_from
count_swapped x y =
    swapped_then (symbol 128) (λ a. symbol 128 >>= (λ b. done (0 + 0 + bit_of a + (0 + 0 + bit_of a) + bit_of b))) (no_bit ∷ []) (no_bit ∷ []) x (λ a.
    swapped_then (symbol 128) (λ b. done (0 + 0 + bit_of a + (0 + 0 + bit_of a) + bit_of b)) (no_bit ∷ []) [] y (λ b. swapped_done (0 + 0 + bit_of a + (0 + 0 + bit_of a) + bit_of b)))
