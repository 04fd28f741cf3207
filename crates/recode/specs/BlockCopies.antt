-- The blocks of a macroblock, read and written again: the steps of the proofs.
use Rattle.std.specs.Prelude.{◌+◌, ◌-◌, ◌≤◌, ◌<◌, ◌≡◌}
use Rattle.numbers.specs.Words.{ℕ, zero, suc, add-one, arith, refl, sym, ◌∙◌, ap, subst, Bool, true, false, ⊎_elim, eqb, ltb, lt_or, eq_or, eq-eqb, ne_eqb, bit_of, List, length, get_or, set, ℤ}
use Rattle.header.specs.declared.quantizers.Factors.{Factors}
use Rattle.reader.specs.declared.boolean.Reader.{Reader}
use Rattle.reader.specs.Reading.{Reading, done, ◌>>=◌}
use Rattle.reader.specs.Token.{token, eleven_at}
use Rattle.coefficients.specs.Block.{Coefficients, block, block_from, probability_place, signed_value, quantizer_at, context_after, zigzag}
use Rattle.coefficients.specs.BlockLaws.{rest_of, block_asks, block_none, rest_ends, rest_zero}
use Rattle.residual.specs.Residual.{Model, Flags, initial, cleared, luma_kind, residual_of, coded}
use Rattle.residual.specs.Quick.{kind_at, place_at, quick_part, parts_from}
use Rattle.residual.specs.QuickLaws.{residual_parts, old_at, after_at, part_coded, kind_later}
use Rattle.residual.specs.ResidualLaws.{kind_luma, kind_chroma, flags_flagged}
use Rattle.writer.specs.Encoder.{Encoder}
use Rattle.recode.specs.declared.pipe.Pipe.{Pipe}
use Rattle.recode.specs.declared.block.Flow.{Flow}
use Rattle.recode.specs.Copies.{same, Going, Copies, going_done, going_as, going_call}
use Rattle.recode.specs.TokenCopies.{Rest}

-- ---- a block
-- the context after a token 1..11
unfoldable pub near_of : ℕ → ℕ
near_of t = elim (eqb t 1) [ true ↦ 0 | false ↦ context_after t ]

pub near_zero : (t : ℕ) → t ≡ 1 → 0 ≡ near_of t
unfolding near_of
near_zero t e = rw (eq-eqb _ _ e, near_of)

pub near_number : (t : ℕ) → (t ≡ 1 → ⊥) → context_after t ≡ near_of t
unfolding near_of
near_number t e = rw (ne_eqb _ _ e, near_of)

-- a block's end is what its caller sees
abbrev pub ends : Coefficients → ℕ
ends c = c.end

abbrev pub BlockCopies : (table : List ℕ) (kind ctx first : ℕ) → (s : List ℕ) → Pipe → List ℕ → ℕ → Pipe → List ℕ → Type 0
BlockCopies table kind ctx first s p room end q new = (q0 q1 : ℕ) (values : List ℤ) → Copies ends (block table kind q0 q1 ctx first values) s p room end q new

-- what follows a number's token
rest_number : (table : List ℕ) (kind q0 q1 left n : ℕ) (values : List ℤ) (t : ℕ) → (t ≡ 0 → ⊥) → (t ≡ 1 → ⊥) → rest_of table kind q0 q1 left n values t ≡ (signed_value t (quantizer_at n q0 q1) >>= (λ v. block_from table kind q0 q1 left (n + 1) (context_after t) false (set values (get_or zigzag n 0) v)))
unfolding rest_of
rest_number table kind q0 q1 left n values t e f = rw (ne_eqb _ _ e, rest_of, ne_eqb _ _ f, rest_of)

-- the loop over its positions
pub record Spot (table : List ℕ) (kind q0 q1 : ℕ) (s : List ℕ) (a : Coefficients) (r2 : Reader) (F : Encoder) (old : List ℕ) (p : Pipe) (n ctx : ℕ) (z : Bool) (room : List ℕ) : Type 0 where
  pub values : List ℤ
  pub going : Going s a r2 F old (block_from table kind q0 q1 (16 - n) n ctx z values) p room

pub record Blocking (table : List ℕ) (kind ctx₀ first : ℕ) (s : List ℕ) (p₀ : Pipe) (room₀ : List ℕ) (p : Pipe) (n ctx : ℕ) (z : Bool) (room : List ℕ) : Type 0 where
  pub most : n ≤ 16
  pub few : ctx < 3
  pub long : length room ≡ length room₀
  pub way : (q0 q1 : ℕ) (values : List ℤ) (a : Coefficients) (r2 : Reader) (F : Encoder) (old : List ℕ) → Going s a r2 F old (block table kind q0 q1 ctx₀ first values) p₀ room₀ → Spot table kind q0 q1 s a r2 F old p n ctx z room

pub blocking_start : (table : List ℕ) (kind ctx first : ℕ) (s : List ℕ) (p : Pipe) (room : List ℕ) → first ≤ 1 → ctx < 3 → Blocking table kind ctx first s p room p first ctx false room
blocking_start table kind ctx first s p room h l = record { most = omega arith; few = l; long = refl; way = λ q0 q1 values a r2 F old g. record { values = values; going = g } }

module _ {table : List ℕ} {kind ctx₀ first : ℕ} {s : List ℕ} {p₀ : Pipe} {room₀ : List ℕ} {p : Pipe} {n ctx : ℕ} {z : Bool} {room : List ℕ} (w : Blocking table kind ctx₀ first s p₀ room₀ p n ctx z room) where
  pub blocking_end : 16 ≤ n → BlockCopies table kind ctx₀ first s p₀ room₀ n p room
  blocking_end h q0 q1 values a r2 F old g =
      let t = w.way q0 q1 values a r2 F old g in
      let e : 16 - n ≡ 0 = omega arith in
      going_done (going_as (ap (λ (l : ℕ). block_from table kind q0 q1 l n ctx z t.values) e ∙ block_none table kind q0 q1 n ctx z t.values) t.going) refl

  module _ (h : n < 16) {at t : ℕ} {q : Pipe} {mid : List ℕ} (e : at ≡ probability_place kind n ctx) (c : Copies same (token (eleven_at table at) z) s p room t q mid) where
    -- the token read
    read : (q0 q1 : ℕ) {a : Coefficients} {r2 : Reader} {F : Encoder} {old : List ℕ} (values : List ℤ) → Going s a r2 F old (block_from table kind q0 q1 (16 - n) n ctx z values) p room
        → Going s a r2 F old (rest_of table kind q0 q1 (15 - n) n values t) q mid
    read q0 q1 values g =
        let f : 16 - n ≡ suc (15 - n) = omega arith in
        let i : block_from table kind q0 q1 (16 - n) n ctx z values ≡ (token (eleven_at table at) z >>= rest_of table kind q0 q1 (15 - n) n values) =
        ap (λ (l : ℕ). block_from table kind q0 q1 l n ctx z values) f ∙ block_asks table kind q0 q1 (15 - n) n values ctx z ∙ ap (λ (l : ℕ). token (eleven_at table l) z >>= rest_of table kind q0 q1 (15 - n) n values) (sym e) in
        let d = going_call (token (eleven_at table at) z) (rest_of table kind q0 q1 (15 - n) n values) (going_as i g) c in
        going_as (ap (rest_of table kind q0 q1 (15 - n) n values) (sym d.seen)) d.going

    pub blocking_over : t ≡ 0 → BlockCopies table kind ctx₀ first s p₀ room₀ n q mid
    blocking_over f q0 q1 values a r2 F old g =
        let x = w.way q0 q1 values a r2 F old g in
        going_done (going_as (ap (rest_of table kind q0 q1 (15 - n) n x.values) f ∙ rest_ends table kind q0 q1 (15 - n) n x.values) (read q0 q1 x.values x.going)) refl

    pub blocking_next : (t ≡ 0 → ⊥) → {u : Pipe} {new : List ℕ} → Rest s q mid t u new → {near : ℕ} {on : Bool} → near ≡ near_of t → near < 3 → on ≡ eqb t 1 → length mid ≡ length room → length new ≡ length mid
        → Blocking table kind ctx₀ first s p₀ room₀ u (n + 1) near on new
    blocking_next f {u} {new} r {near} {on} a b o k l =
        record {
          most = omega arith;
          few = b;
          long = l ∙ k ∙ w.long;
          way = λ q0 q1 values x r2 F old g.
              let y = w.way q0 q1 values x r2 F old g in
              let i = read q0 q1 y.values y.going in
              ⊎_elim (after_zero q0 q1 y.values i) (after_number q0 q1 y.values i) (eq_or t 1);
        }
      where
        left : 15 - n ≡ 16 - (n + 1)
        left = omega arith

        after_zero : (q0 q1 : ℕ) {x : Coefficients} {r2 : Reader} {F : Encoder} {old : List ℕ} (values : List ℤ) → Going s x r2 F old (rest_of table kind q0 q1 (15 - n) n values t) q mid → t ≡ 1 → Spot table kind q0 q1 s x r2 F old u (n + 1) near on new
        after_zero q0 q1 {x} {r2} {F} {old} values i h =
            let m : rest_of table kind q0 q1 (15 - n) n values t ≡ block_from table kind q0 q1 (16 - (n + 1)) (n + 1) near on values =
            ap (rest_of table kind q0 q1 (15 - n) n values) h
            ∙ rest_zero table kind q0 q1 (15 - n) n values
            ∙ (λ j. block_from table kind q0 q1 (left j) (n + 1) ((near_zero t h ∙ sym a) j) ((sym (eq-eqb t 1 h) ∙ sym o) j) values) in
            let v = r.after_zero h in
            record { values = values; going = subst (λ (y : Pipe). Going s x r2 F old (block_from table kind q0 q1 (16 - (n + 1)) (n + 1) near on values) y new) (sym v.0) (subst (Going s x r2 F old (block_from table kind q0 q1 (16 - (n + 1)) (n + 1) near on values) q) (sym v.1) (going_as m i)) }

        after_number : (q0 q1 : ℕ) {x : Coefficients} {r2 : Reader} {F : Encoder} {old : List ℕ} (values : List ℤ) → Going s x r2 F old (rest_of table kind q0 q1 (15 - n) n values t) q mid → (t ≡ 1 → ⊥) → Spot table kind q0 q1 s x r2 F old u (n + 1) near on new
        after_number q0 q1 values i h =
            let d = going_call (signed_value t (quantizer_at n q0 q1)) (λ v. block_from table kind q0 q1 (15 - n) (n + 1) (context_after t) false (set values (get_or zigzag n 0) v)) (going_as (rest_number table kind q0 q1 (15 - n) n values t f h) i) (r.number h (quantizer_at n q0 q1)) in
            let next : List ℤ = set values (get_or zigzag n 0) d.d in
            record {
              values = next;
              going = going_as (λ j. block_from table kind q0 q1 (left j) (n + 1) ((near_number t h ∙ sym a) j) ((sym (ne_eqb t 1 h) ∙ sym o) j) next) d.going;
            }

-- ---- a part: 0 is the second-order block, i + 1 is block i
-- the flags are what its caller sees
abbrev pub edges : Model → List ℕ × List ℕ
edges m = (m.top, m.left)

pub record PartCopies (table : List ℕ) (small : Bool) (j : ℕ) (s : List ℕ) (m : Flow) (room : List ℕ) (q : Flow) (new : List ℕ) : Type 0 where
  pub top : Flags m.top → Flags q.top
  pub left : Flags m.left → Flags q.left
  pub copies : (f : Factors) (x : Model) → x.top ≡ m.top → x.left ≡ m.left → Flags m.top → Flags m.left → Copies edges (quick_part table f small j x) s m.pipe room (q.top, q.left) q.pipe new

-- the kind of luma and of chroma, whatever the factors
pub kind_luma_at : (f : Factors) (small : Bool) (j : ℕ) → (j ≡ 0 → ⊥) → j < 17 → (luma_kind f small).kind ≡ (kind_at f small j).kind
kind_luma_at f small j n l = (λ i. (sym (kind_luma f small (j - 1) (omega arith)) i).kind) ∙ (λ i. (kind_later f small j n i).kind)

pub kind_chroma_at : (f : Factors) (small : Bool) (j : ℕ) → 17 ≤ j → 2 ≡ (kind_at f small j).kind
kind_chroma_at f small j l = (λ i. (sym (kind_chroma f small (j - 1) (omega arith)) i).kind) ∙ (λ i. (kind_later f small j (λ e. omega arith) i).kind)

-- the first position goes by it
luma_starts : (f : Factors) (small : Bool) → (luma_kind f small).first ≡ bit_of (eqb (luma_kind f small).kind 0)
luma_starts f true = refl
luma_starts f false = refl

kind_starts : (f : Factors) (small : Bool) (j : ℕ) → (kind_at f small j).first ≡ bit_of (eqb (kind_at f small j).kind 0)
kind_starts f small zero = refl
kind_starts f small (suc i) =
    ⊎_elim
    (λ (h : i < 16). (λ j. (kind_luma f small i h j).first) ∙ luma_starts f small ∙ (λ j. bit_of (eqb (sym (kind_luma f small i h) j).kind 0)))
    (λ (h : 16 ≤ i). (λ j. (kind_chroma f small i h j).first) ∙ (λ j. bit_of (eqb (sym (kind_chroma f small i h) j).kind 0)))
    (lt_or i 16)

after_edges : (table : List ℕ) (f : Factors) (small : Bool) (j : ℕ) (m : Model) (c : Coefficients) → edges (after_at table f small j m c) ≡ (set m.top (place_at j).x (bit_of (ltb (kind_at f small j).first c.end)), set m.left (place_at j).y (bit_of (ltb (kind_at f small j).first c.end)))
after_edges table f small zero m c = refl
after_edges table f small (suc i) m c = refl

module _ (table : List ℕ) (small : Bool) (s : List ℕ) (m : Flow) (room : List ℕ) (kind ctx first x y end : ℕ) (q : Pipe) (new : List ℕ) (b : BlockCopies table kind ctx first s m.pipe room end q new)
    (c : get_or m.top x 0 ≤ 1 → get_or m.left y 0 ≤ 1 → ctx ≡ get_or m.top x 0 + get_or m.left y 0) (top left : List ℕ) (t : top ≡ set m.top x (bit_of (ltb first end))) (l : left ≡ set m.left y (bit_of (ltb first end))) where
  pub part_copies : (j : ℕ) → ((f : Factors) → kind ≡ (kind_at f small j).kind) → first ≡ bit_of (eqb kind 0) → x ≡ (place_at j).x → y ≡ (place_at j).y → PartCopies table small j s m room (record { pipe = q; top = top; left = left }) new
  part_copies j e f g h =
      record {
        top = λ k. rw t (flags_flagged k x (ltb first end));
        left = λ k. rw l (flags_flagged k y (ltb first end));
        copies = λ F n a d u v r r2 E o i.
            let K = kind_at F small j in
            let old : List ℤ = old_at table F small j n in
            let on : Coefficients → Reading Model = λ w. done (after_at table F small j n w) in
            let starts : first ≡ K.first = f ∙ ap (λ (k : ℕ). bit_of (eqb k 0)) (e F) ∙ sym (kind_starts F small j) in
            let ctx_is : ctx ≡ get_or n.top (place_at j).x 0 + get_or n.left (place_at j).y 0 = c (u.each x) (v.each y) ∙ (λ p. get_or (sym a p) (g p) 0 + get_or (sym d p) (h p) 0) in
            let is : coded table K (place_at j) n.top n.left old ≡ block table kind K.q0 K.q1 ctx first old = λ p. block table (sym (e F) p) K.q0 K.q1 (sym ctx_is p) (sym starts p) old in
            let z = going_call (block table kind K.q0 K.q1 ctx first old) on (going_as (part_coded table F small j n ∙ ap (λ (G : Reading Coefficients). G >>= on) is) i) (b K.q0 K.q1 old) in
            going_done z.going
            ((λ p. (t p, l p))
            ∙ (λ p. (set (sym a p) (g p) (bit_of (ltb (starts p) (z.seen p))), set (sym d p) (h p) (bit_of (ltb (starts p) (z.seen p)))))
            ∙ sym (after_edges table F small j n z.d));
      }

-- ---- all parts
abbrev pub ResidualCopies : (table : List ℕ) (small skip : Bool) → (s : List ℕ) → Flow → List ℕ → Flow → List ℕ → Type 0
ResidualCopies table small skip s m room q new = (f : Factors) → Flags m.top → Flags m.left → Copies edges (residual_of table f small skip m.top m.left) s m.pipe room (q.top, q.left) q.pipe new

pub residual_skipped : (table : List ℕ) (small : Bool) {skip : Bool} {s : List ℕ} (m : Flow) {room : List ℕ} {top left : List ℕ} → skip ≡ true → top ≡ cleared small m.top → left ≡ cleared small m.left
    → ResidualCopies table small skip s m room (record { pipe = m.pipe; top = top; left = left }) room
unfolding residual_of
residual_skipped table small m e t l f h k a r2 F old g =
    going_done (going_as (ap (λ (b : Bool). residual_of table f small b m.top m.left) e) g) (λ j. (t j, l j))

pub residual_read : (table : List ℕ) (small : Bool) {skip : Bool} {s : List ℕ} {m : Flow} {room : List ℕ} {q : Flow} {new : List ℕ} → skip ≡ false → ResidualCopies table small false s m room q new → ResidualCopies table small skip s m room q new
residual_read table small {s = s} {m} {room} {q} {new} e c = subst (λ (b : Bool). ResidualCopies table small b s m room q new) (sym e) c

pub record Between (table : List ℕ) (small : Bool) (s : List ℕ) (f : Factors) (a : Model) (r2 : Reader) (F : Encoder) (old : List ℕ) (m : Flow) (j : ℕ) (room : List ℕ) : Type 0 where
  pub x : Model
  pub top : x.top ≡ m.top
  pub left : x.left ≡ m.left
  pub above : Flags m.top
  pub beside : Flags m.left
  pub going : Going s a r2 F old (parts_from table f small (25 - j) j x) m.pipe room

pub record Parting (table : List ℕ) (small : Bool) (s : List ℕ) (m₀ : Flow) (room₀ : List ℕ) (m : Flow) (j : ℕ) (room : List ℕ) : Type 0 where
  pub most : j ≤ 25
  pub long : length room ≡ length room₀
  pub way : (f : Factors) → Flags m₀.top → Flags m₀.left → (a : Model) (r2 : Reader) (F : Encoder) (old : List ℕ) → Going s a r2 F old (residual_of table f small false m₀.top m₀.left) m₀.pipe room₀ → Between table small s f a r2 F old m j room

bit_most : (b : Bool) → bit_of b ≤ 25
bit_most true = omega arith
bit_most false = omega arith

pub parting_start : (table : List ℕ) (small : Bool) (s : List ℕ) (m : Flow) (room : List ℕ) {j : ℕ} → j ≡ bit_of small → Parting table small s m room m j room
parting_start table small s m room {j} e =
    record {
      most = rw e (bit_most small);
      long = refl;
      way = λ f t l a r2 F old g. record { x = initial m.top m.left; top = refl; left = refl; above = t; beside = l; going = going_as (residual_parts table f small m.top m.left ∙ ap (λ (n : ℕ). parts_from table f small (25 - n) n (initial m.top m.left)) (sym e)) g };
    }

module _ {table : List ℕ} {small : Bool} {s : List ℕ} {m₀ : Flow} {room₀ : List ℕ} {m : Flow} {j : ℕ} {room : List ℕ} (w : Parting table small s m₀ room₀ m j room) where
  pub parting_next : j < 25 → {q : Flow} {new : List ℕ} → PartCopies table small j s m room q new → length new ≡ length room → Parting table small s m₀ room₀ q (j + 1) new
  unfolding parts_from
  parting_next h {q} c k =
      record {
        most = omega arith;
        long = k ∙ w.long;
        way = λ f t l a r2 F old g.
            let y = w.way f t l a r2 F old g in
            let n : 25 - j ≡ suc (25 - (j + 1)) = omega arith in
            let d = going_call (quick_part table f small j y.x) (parts_from table f small (25 - (j + 1)) (suc j)) (going_as (ap (λ (k : ℕ). parts_from table f small k j y.x) n) y.going) (c.copies f y.x y.top y.left y.above y.beside) in
            record { x = d.d; top = ap (λ (e : List ℕ × List ℕ). e.0) (sym d.seen); left = ap (λ (e : List ℕ × List ℕ). e.1) (sym d.seen); above = c.top y.above; beside = c.left y.beside; going = going_as (ap (λ (k : ℕ). parts_from table f small (25 - (j + 1)) k d.d) (sym (add-one j))) d.going };
      }

  pub parting_end : 25 ≤ j → ResidualCopies table small false s m₀ room₀ m room
  unfolding parts_from
  parting_end h f t l a r2 F old g =
      let y = w.way f t l a r2 F old g in
      let e : 25 - j ≡ 0 = omega arith in
      going_done (going_as (ap (λ (n : ℕ). parts_from table f small n j y.x) e) y.going) (λ i. (sym y.top i, sym y.left i))
