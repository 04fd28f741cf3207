-- Code that reads by a grammar and writes what it reads: what its contract says (`Copies`), and the steps of its proof (`Going`). Only a run
-- that gives a value is spoken of.
use Rattle.std.specs.Prelude.{◌<◌, ◌≡◌, ◌∷◌}
use Rattle.numbers.specs.Words.{ℕ, arith, refl, sym, ◌∙◌, ap, subst, Bool, true, false, List, [], length}
use Rattle.reader.specs.declared.boolean.Reader.{Reader}
use Rattle.reader.specs.Reading.{Given, given, missing, decided_of, symbol_of, Reading, done, ◌>>=◌, symbol, run, CodedSymbol, trace}
use Rattle.reader.specs.ReadingLaws.{Bytes, Valid, symbol_missing, never_both, run_done, run_got, run_missing, run_then, run_stops, run_valid, within_symbol, trace_done, trace_got, trace_then}
use Rattle.wide.specs.declared.wide.Bit.{Bit}
use Rattle.wide.specs.declared.wide.Wide.{Wide}
use Rattle.wide.specs.Padded.{padded_bit, padded_next}
use Rattle.wide.specs.PaddedLaws.{padded_symbol}
use Rattle.wide.specs.Wide.{fill_of, wide_bit_of}
use Rattle.wide.specs.WideLaws.{Sim, Read, sim_fill, sim_bit, sim_near}
use Rattle.writer.specs.declared.Writer.{Writer}
use Rattle.writer.specs.Encoder.{Encoder, write_of, write_all}
use Rattle.writer.specs.EncoderLaws.{Ready, write_ready}
use Rattle.writer.specs.WriteLaws.{write_append, write_one, write_none, write_grows}
use Rattle.writer.specs.Room.{written_of, write_in}
use Rattle.writer.specs.KeptLaws.{Kept, kept_write}
use Rattle.recode.specs.declared.pipe.Asked.{Asked}
use Rattle.recode.specs.declared.pipe.Pipe.{Pipe}
use Rattle.recode.specs.Ask.{PipeAsked, asked_of, ask_of}

-- what a caller sees of a grammar's value: all of it, or nothing
abbrev pub same : {A : Type 0} → A → A
same a = a

abbrev pub nothing : {A : Type 0} → A → Unit {0}
nothing a = tt

-- ---- on the way towards the value a, the reader r2 and the encoder F: p's wide reader stands for r, and from there, in the room, the grammar m
-- still gives and writes that. The room was `old` before the first symbol.
pub record Going {A : Type 0} (s : List ℕ) (a : A) (r2 : Reader) (F : Encoder) (old : List ℕ) (m : Reading A) (p : Pipe) (room : List ℕ) : Type 0 where
  pub e : Encoder
  pub r : Reader
  pub bytes : Bytes s
  pub long : length s < 9223372036854775808
  pub sim : Sim s p.reader r
  pub valid : Valid s r
  pub gives : run m s r ≡ given a r2
  pub paid : write_all e (trace m s r) ≡ F
  pub small : length F.out < 9223372036854775808
  pub ready : Ready 128 e
  pub kept : Kept e old (written_of p.writer room)

-- there: b is what is seen of the value
pub record Gave {A B : Type 0} (view : A → B) (s : List ℕ) (a : A) (r2 : Reader) (F : Encoder) (old : List ℕ) (b : B) (p : Pipe) (room : List ℕ) : Type 0 where
  pub value : b ≡ view a
  pub sim : Sim s p.reader r2
  pub valid : Valid s r2
  pub ready : Ready 128 F
  pub kept : Kept F old (written_of p.writer room)

-- a contract: the code leads from p and the room there
abbrev pub Copies : {A B : Type 0} → (A → B) → Reading A → List ℕ → Pipe → List ℕ → B → Pipe → List ℕ → Type 0
Copies {A} view m s p room b q new = (a : A) (r2 : Reader) (F : Encoder) (old : List ℕ) → Going s a r2 F old m p room → Gave view s a r2 F old b q new

-- ---- one symbol
-- where it is not missing, it is what the padded reader gives
decided : (s : List ℕ) (r : Reader) (prob : ℕ) {a : Bool} {r2 : Reader} → run (symbol prob) s r ≡ given a r2 → symbol_of s r prob ≡ given (padded_bit r prob) (padded_next s r prob)
decided s r prob {a} {r2} e = go (decided_of s r) refl
  where
    go : (b : Bool) → decided_of s r ≡ b → symbol_of s r prob ≡ given (padded_bit r prob) (padded_next s r prob)
    go true f = padded_symbol s r prob f
    go false f = absurd (never_both e (run_missing prob done s r (symbol_missing s r prob f)))

-- what the wide reader reads is that symbol
pub record BitRead (s : List ℕ) (r2 : Reader) (a : Bool) (b : Bit) : Type 0 where
  pub value : b.on ≡ a
  pub sim : Sim s b.next r2
  pub valid : Valid s r2

module _ (s : List ℕ) (w : Wide) (r : Reader) (prob : ℕ) (y : Bytes s) (long : length s < 9223372036854775808) (l : prob < 256) (sim : Sim s w r) (v : Valid s r) {a : Bool} {r2 : Reader} (gives : run (symbol prob) s r ≡ given a r2) where
  d : symbol_of s r prob ≡ given (padded_bit r prob) (padded_next s r prob)
  d = decided s r prob gives

  went : given (padded_bit r prob) (padded_next s r prob) ≡ given a r2
  went = sym (run_got prob done s r (padded_bit r prob) (padded_next s r prob) d ∙ run_done (padded_bit r prob) s (padded_next s r prob)) ∙ gives

  pub bit_traced : trace (symbol prob) s r ≡ record { prob = prob; bit = a } ∷ []
  bit_traced =
      let c : padded_bit r prob ≡ a = (let i = went in cc) in
      trace_got prob done s r (padded_bit r prob) (padded_next s r prob) d ∙ (λ j. record { prob = prob; bit = c j } ∷ trace_done (padded_bit r prob) s (padded_next s r prob) j)

  pub bit_read : {full : Wide} {b : Bit} → full ≡ fill_of s w → b ≡ wide_bit_of full prob → BitRead s r2 a b
  bit_read {full} {b} f g =
      let i = went in
      let c : padded_bit r prob ≡ a = cc in
      let z : padded_next s r prob ≡ r2 = cc in
      let t = sim_near s w r sim in
      let m = sim_fill s w r (omega (arith, v.inside)) sim in
      let n : Read s (fill_of s w) r prob (wide_bit_of (fill_of s w) prob) = sim_bit s (fill_of s w) r prob y l (omega (arith, m.enough)) m.sim in
      let is : b ≡ wide_bit_of (fill_of s w) prob = g ∙ ap (λ (x : Wide). wide_bit_of x prob) f in
      record {
        value = ap (λ (x : Bit). x.on) is ∙ n.on ∙ c;
        sim = subst (λ (x : Reader). Sim s b.next x) z (subst (λ (x : Bit). Sim s x.next (padded_next s r prob)) (sym is) n.next.sim);
        valid = (run_valid (within_symbol l) y v gives).valid;
      }

asked : (s : List ℕ) (p : Pipe) (room : List ℕ) (prob : ℕ) → prob < 256 → Copies same (symbol prob) s p room (ask_of s p room prob).answer.bit (ask_of s p room prob).answer.next (ask_of s p room prob).room
unfolding ask_of
asked s p room prob l a r2 F old o =
    let b : Bit = wide_bit_of (fill_of s p.reader) prob in
    let n = bit_read s p.reader o.r prob o.bytes o.long l o.sim o.valid o.gives refl refl in
    let q : CodedSymbol = record { prob = prob; bit = b.on } in
    let u : trace (symbol prob) s o.r ≡ q ∷ [] = bit_traced s p.reader o.r prob o.bytes o.long l o.sim o.valid o.gives ∙ (λ j. record { prob = prob; bit = sym n.value j } ∷ []) in
    let F1 : write_of o.e q ≡ F = sym (write_one o.e q) ∙ ap (write_all o.e) (sym u) ∙ o.paid in
    let few : length o.e.out < 9223372036854775808 = (let h = write_grows o.e (trace (symbol prob) s o.r) in let x : length (write_all o.e (trace (symbol prob) s o.r)).out ≡ length F.out = ap (λ (n : Encoder). length n.out) o.paid in omega (arith, o.small)) in
    record {
      value = n.value;
      sim = n.sim;
      valid = n.valid;
      ready = subst (Ready 128) F1 (write_ready o.e q o.ready l);
      kept = subst (λ (n : Encoder). Kept n old (write_in p.writer room prob b.on)) F1 (kept_write o.kept o.ready few q l refl);
    }

pub ask_is : (s : List ℕ) (p : Pipe) (room : List ℕ) (prob : ℕ) {full : Wide} {b : Bit} {w : Writer} {new : List ℕ} → full ≡ fill_of s p.reader → b ≡ wide_bit_of full prob → written_of w new ≡ write_in p.writer room prob b.on
    → asked_of (record { bit = b.on; next = record { reader = b.next; writer = w } }) new ≡ ask_of s p room prob
unfolding ask_of
ask_is s p room prob f g k =
    let is = g ∙ ap (λ (x : Wide). wide_bit_of x prob) f in
    let e = k ∙ ap (λ (x : Bit). write_in p.writer room prob x.on) is in
    λ j. asked_of (record { bit = (is j).on; next = record { reader = (is j).next; writer = (e j).writer } }) (e j).room

-- whatever meets the contract of `ask` copies a symbol
pub ask_copies : {s : List ℕ} {p : Pipe} {room : List ℕ} {prob : ℕ} → prob < 256 → {q : Asked} {new : List ℕ} → asked_of q new ≡ ask_of s p room prob → Copies same (symbol prob) s p room q.bit q.next new
ask_copies {s} {p} {room} {prob} l e = subst (λ (x : PipeAsked). Copies same (symbol prob) s p room x.answer.bit x.answer.next x.room) (sym e) (asked s p room prob l)

-- a call on the way: its value d is what is seen as v
pub record Called {A D B : Type 0} (s : List ℕ) (a : A) (r2 : Reader) (F : Encoder) (old : List ℕ) (view : D → B) (f : D → Reading A) (v : B) (p : Pipe) (room : List ℕ) : Type 0 where
  pub d : D
  pub seen : v ≡ view d
  pub going : Going s a r2 F old (f d) p room

-- ---- the steps of a way
module _ {A : Type 0} {s : List ℕ} {a : A} {r2 : Reader} {F : Encoder} {old : List ℕ} where
  pub going_done : {B : Type 0} {view : A → B} {x : A} {b : B} {p : Pipe} {room : List ℕ} → Going s a r2 F old (done x) p room → b ≡ view x → Gave view s a r2 F old b p room
  going_done {view} {x} {b} {p} g e =
      let i : given x g.r ≡ given a r2 = sym (run_done x s g.r) ∙ g.gives in
      let v : x ≡ a = cc in
      let t : g.r ≡ r2 = cc in
      let n : g.e ≡ F = sym (write_none g.e) ∙ ap (write_all g.e) (sym (trace_done x s g.r)) ∙ g.paid in
      record {
        value = e ∙ ap view v;
        sim = subst (Sim s p.reader) t g.sim;
        valid = subst (Valid s) t g.valid;
        ready = subst (Ready 128) n g.ready;
        kept = subst (λ (z : Encoder). Kept z old (written_of p.writer _)) n g.kept;
      }

  -- a call that ends the way, seen otherwise
  pub gave_as : {B C : Type 0} {view : A → B} {see : A → C} {b : B} {c : C} {p : Pipe} {room : List ℕ} → Gave view s a r2 F old b p room → ((x : A) → b ≡ view x → c ≡ see x) → Gave see s a r2 F old c p room
  gave_as g f = record { value = f a g.value; sim = g.sim; valid = g.valid; ready = g.ready; kept = g.kept }

  pub going_as : {m n : Reading A} {p : Pipe} {room : List ℕ} → m ≡ n → Going s a r2 F old m p room → Going s a r2 F old n p room
  going_as {p} {room} e g = subst (λ (x : Reading A). Going s a r2 F old x p room) e g

  pub going_call : {D B : Type 0} {view : D → B} (m : Reading D) (f : D → Reading A) {p : Pipe} {room : List ℕ} {v : B} {q : Pipe} {new : List ℕ} → Going s a r2 F old (m >>= f) p room → Copies view m s p room v q new → Called s a r2 F old view f v q new
  going_call {D} {B} {view} m f {p} {room} {v} {q} {new} g c = go (run m s g.r) refl
    where
      go : (x : Given D) → run m s g.r ≡ x → Called s a r2 F old view f v q new
      go missing e = absurd (never_both g.gives (run_stops f s m g.r e))
      go (given d r) e =
          let G : Encoder = write_all g.e (trace m s g.r) in
          let h : write_all G (trace (f d) s r) ≡ F = sym (write_append g.e (trace m s g.r) (trace (f d) s r)) ∙ ap (write_all g.e) (sym (trace_then f s m g.r e)) ∙ g.paid in
          let l : length G.out < 9223372036854775808 = (let n = write_grows G (trace (f d) s r) in let k : length (write_all G (trace (f d) s r)).out ≡ length F.out = ap (λ (n : Encoder). length n.out) h in omega (arith, g.small)) in
          let z = c d r G old (record { e = g.e; r = g.r; bytes = g.bytes; long = g.long; sim = g.sim; valid = g.valid; gives = e; paid = refl; small = l; ready = g.ready; kept = g.kept }) in
          record {
            d = d;
            seen = z.value;
            going = record { e = G; r = r; bytes = g.bytes; long = g.long; sim = z.sim; valid = z.valid; gives = sym (run_then f s m g.r e) ∙ g.gives; paid = h; small = g.small; ready = z.ready; kept = z.kept };
          }
