-- One macroblock read and written again: what its contract says, and its proof.
use Rattle.std.specs.Prelude.{◌<◌, ◌≡◌}
use Rattle.numbers.specs.Words.{Checked, ℕ, arith, refl, sym, ◌∙◌, ap, subst, Bool, true, List, length, Ok}
use Rattle.header.specs.Frame.{factors_at}
use Rattle.lent.specs.Memory as lent
use Rattle.lent.specs.Memory.{records_in, Form, packed, form_width, column_width, column_at, column_bytes, column_set, column_written}
use Rattle.lent.specs.RecordsLaws.{write_good}
use Rattle.macroblock.specs.Macroblock.{below, beside}
use Rattle.macroblock.specs.declared.arguments.Around.{Around}
use Rattle.macroblock.specs.Macroblock as macroblock
use Rattle.modes.specs.declared.answers.Kinds.{Kinds}
use Rattle.modes.specs.declared.contexts.Context.{Context}
use Rattle.modes.specs.Modes.{macroblock_of, modes_answer, context_fine_of, Macroblock, modes_of, bottom_of, right_of}
use Rattle.modes.specs.AnswersLaws.{stage_given, read}
use Rattle.choices.specs.Choices.{beside_of}
use Rattle.reader.specs.declared.boolean.Reader.{Reader}
use Rattle.reader.specs.Reading.{given, missing, ReadOf, Reading, run, trace}
use Rattle.reader.specs.ReadingLaws.{never_both, Bytes}
use Rattle.residual.specs.Residual.{Model, residual_of}
use Rattle.wide.specs.declared.wide.Wide.{Wide}
use Rattle.wide.specs.Wide.{widen_of, narrow_of}
use Rattle.wide.specs.WideLaws.{sim_near, sim_widen, sim_narrow}
use Rattle.writer.specs.declared.Writer.{Writer}
use Rattle.writer.specs.Encoder.{Encoder, write_all}
use Rattle.writer.specs.EncoderLaws.{Ready}
use Rattle.writer.specs.KeptLaws.{Kept}
use Rattle.writer.specs.Room.{written_of}
use Rattle.recode.specs.declared.block.Flow.{Flow}
use Rattle.recode.specs.declared.turn.Task.{Task}
use Rattle.recode.specs.declared.turn.Turned.{Turned}
use Rattle.recode.specs.BlockCopies.{ResidualCopies}

-- what it asks of its token partition, its modes being m, between two contexts
abbrev pub tokens_of : (table : List ℕ) → Task → Macroblock → (top left : Context) → Reading Model
tokens_of table t m top left = residual_of table (factors_at t.frame m.segment) m.small m.skip top.flags left.flags

-- its tokens read and written: from the reader r and the encoder e, in a room that was `old`, its model d, the reader r2 and the encoder F
pub record Written (s : List ℕ) (m : Reading Model) (d : Model) (r r2 : Reader) (F : Encoder) (old : List ℕ) (w : Writer) (room : List ℕ) : Type 0 where
  pub e : Encoder
  pub gives : run m s r ≡ given d r2
  pub paid : write_all e (trace m s r) ≡ F
  pub small : length F.out < 9223372036854775808
  pub ready : Ready 128 e
  pub kept : Kept e old (written_of w room)

-- what it leaves
pub record TurnGave (form : Form) (m : Macroblock) (d : Model) (r1 r2 : Reader) (F : Encoder) (old : List ℕ) (columns : List ℕ) (column : ℕ) (q : Turned) (after room : List ℕ) : Type 0 where
  pub first : q.first ≡ r1
  pub token : q.token ≡ r2
  pub left : q.left ≡ beside m d.left
  pub columns' : after ≡ column_set form columns column (below m d.top)
  pub ready : Ready 128 F
  pub kept : Kept F old (written_of q.writer room)

-- its contract: where its modes m and its coefficients d are read, it leads to the encoder F
pub record Turning (form : Form) (first tokens table : List ℕ) (t : Task) (columns room : List ℕ) (m : Macroblock) (d : Model) (r1 r2 : Reader) (F : Encoder) (old : List ℕ) (top left : Context) : Type 0 where
  pub inside : t.column < records_in (form_width form) columns
  pub ready : macroblock.Ready first tokens (record { first = t.first; token = t.token }) t.frame table (record { top = top; left = left })
  pub modes : run (modes_of t.frame.announced top.modes left.modes) first t.first ≡ given m r1
  pub fine : context_fine_of (below m d.top) ≡ true
  pub tokens' : Written tokens (tokens_of table t m top left) d t.token r2 F old t.writer room

abbrev pub TurnCopies : Form → (first tokens table : List ℕ) → Task → (columns room : List ℕ) → Turned → (after new : List ℕ) → Type 0
TurnCopies form first tokens table t columns room q after new =
    (m : Macroblock) (d : Model) (r1 r2 : Reader) (F : Encoder) (old : List ℕ) → Turning form first tokens table t columns room m d r1 r2 F old (column_at form columns t.column) (beside_of t.column t.left)
    → TurnGave form m d r1 r2 F old columns t.column q after new

-- the same once its modes are read
abbrev pub TokensTurned : (tokens table : List ℕ) → Task → Around → Kinds → Reader → List ℕ → (columns room : List ℕ) → Turned → (after new : List ℕ) → Type 0
TokensTurned tokens table t a kinds next modes columns room q after new =
    (first : List ℕ) (d : Model) (r2 : Reader) (F : Encoder) (old : List ℕ) → Turning packed first tokens table t columns room (macroblock_of kinds modes) d next r2 F old a.top a.left
    → TurnGave packed (macroblock_of kinds modes) d next r2 F old columns t.column q after new

-- what its tokens start from
abbrev pub flow_at : Task → Around → Flow
flow_at t a = record { pipe = record { reader = widen_of t.token; writer = t.writer }; top = a.top.flags; left = a.left.flags }

pub flow_is : (tokens table : List ℕ) (t : Task) (a : Around) (small skip : Bool) {room : List ℕ} {w : Wide} {q : Flow} {new : List ℕ} → w ≡ widen_of t.token
    → ResidualCopies table small skip tokens (record { pipe = record { reader = w; writer = t.writer }; top = a.top.flags; left = a.left.flags }) room q new → ResidualCopies table small skip tokens (flow_at t a) room q new
flow_is tokens table t a small skip {room} {w} {q} {new} e r = subst (λ (u : Wide). ResidualCopies table small skip tokens (record { pipe = record { reader = u; writer = t.writer }; top = a.top.flags; left = a.left.flags }) room q new) e r

-- its tokens, as the code copies them
pub tokens_done : (tokens table : List ℕ) (t : Task) (a : Around) (kinds : Kinds) (next : Reader) (modes columns room : List ℕ) → Bytes tokens → length tokens < 9223372036854775808 → {q : Flow} {new : List ℕ}
    → ResidualCopies table kinds.small kinds.skip tokens (flow_at t a) room q new
    → {bottom right : List ℕ} {c : Checked} {after : List ℕ} {r : Reader} → bottom ≡ bottom_of modes → right ≡ right_of modes
    → record { answer = c; mem = after } ≡ column_written columns t.column (record { modes = bottom; flags = q.top }) → r ≡ narrow_of tokens q.pipe.reader
    → TokensTurned tokens table t a kinds next modes columns room (record { first = next; token = r; writer = q.pipe.writer; left = record { modes = right; flags = q.left } }) after new
tokens_done tokens table t a kinds next modes columns room y long {q} {new} r {bottom} {right} {c} {after} b g o n first d r2 F old z =
    let m = macroblock_of kinds modes in
    let x = z.tokens' in
    let v = r (factors_at t.frame kinds.segment) z.ready.top z.ready.left d r2 F old
    (record { e = x.e; r = t.token; bytes = y; long = long; sim = sim_widen tokens t.token z.ready.token; valid = z.ready.token; gives = x.gives; paid = x.paid; small = x.small; ready = x.ready; kept = x.kept }) in
    let near = sim_near tokens q.pipe.reader r2 v.sim in
    let up : record { modes = bottom; flags = q.top } ≡ below m d.top = λ j. record { modes = b j; flags = (v.value j).0 } in
    record {
      first = refl;
      token = n ∙ sim_narrow tokens q.pipe.reader r2 v.sim y (omega (arith, near, v.valid.inside));
      left = λ j. record { modes = g j; flags = (v.value j).1 };
      columns' = ap (λ (u : lent.Written). u.mem) (o ∙ ap (column_written columns t.column) up ∙ write_good column_width columns t.column (context_fine_of (below m d.top)) (column_bytes packed (below m d.top)) z.inside z.fine);
      ready = v.ready;
      kept = v.kept;
    }

module _ (first tokens table : List ℕ) (t : Task) (columns room : List ℕ) (top left : Context) (e : t.column < records_in column_width columns → top ≡ column_at packed columns t.column) (f : left ≡ beside_of t.column t.left)
    (old16 : List ℕ) {x : ReadOf Kinds} {modes : List ℕ} (g : record { answer = x; modes = modes } ≡ modes_answer first t.frame.announced t.first top.modes left.modes old16) where
  -- the contexts as the code found them
  found : {m : Macroblock} {d : Model} {r1 r2 : Reader} {F : Encoder} {old : List ℕ} → Turning packed first tokens table t columns room m d r1 r2 F old (column_at packed columns t.column) (beside_of t.column t.left) → Turning packed first tokens table t columns room m d r1 r2 F old top left
  found {m} {d} {r1} {r2} {F} {old} z =
      subst (λ (l : Context). Turning packed first tokens table t columns room m d r1 r2 F old top l) (sym f)
      (subst (λ (c : Context). Turning packed first tokens table t columns room m d r1 r2 F old c (beside_of t.column t.left)) (sym (e z.inside)) z)

  told : {m : Macroblock} {d : Model} {r1 r2 : Reader} {F : Encoder} {old : List ℕ} → Turning packed first tokens table t columns room m d r1 r2 F old top left → stage_given x modes ≡ given m r1
  told z = sym (read first t.frame.announced t.first top.modes left.modes old16 z.ready.reader z.ready.contexts g) ∙ z.modes

  pub turn_none : ((l : List ℕ) → stage_given x l ≡ missing) → {q : Turned} {after new : List ℕ} → TurnCopies packed first tokens table t columns room q after new
  turn_none h m d r1 r2 F old z = absurd (never_both (told (found z)) (h modes))

  pub turn_done : {kinds : Kinds} {next : Reader} {q : Turned} {after new : List ℕ} → x ≡ Ok (kinds, next) → TokensTurned tokens table t (record { top = top; left = left }) kinds next modes columns room q after new → TurnCopies packed first tokens table t columns room q after new
  turn_done {kinds} {next} {q} {after} {new} h r m d r1 r2 F old z₀ =
      let z = found z₀ in
      let i : given (macroblock_of kinds modes) next ≡ given m r1 = sym (ap (λ (y : ReadOf Kinds). stage_given y modes) h) ∙ told z in
      let k : macroblock_of kinds modes ≡ m = cc in
      let n : next ≡ r1 = cc in
      let y : Turning packed first tokens table t columns room (macroblock_of kinds modes) d next r2 F old top left =
      subst (λ (u : Reader). Turning packed first tokens table t columns room (macroblock_of kinds modes) d u r2 F old top left) (sym n) (subst (λ (u : Macroblock). Turning packed first tokens table t columns room u d r1 r2 F old top left) (sym k) z) in
      subst (λ (u : Reader). TurnGave packed m d u r2 F old columns t.column q after new) n (subst (λ (u : Macroblock). TurnGave packed u d next r2 F old columns t.column q after new) k (r first d r2 F old y))
