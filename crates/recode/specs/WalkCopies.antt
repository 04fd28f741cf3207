-- All macroblocks read and written again: what the contract of the walk says, and the turns of its loop.
use Rattle.std.specs.Prelude.{◌+◌, ◌*◌, ◌/◌, ◌%◌, ◌≤◌, ◌<◌, ◌≡◌}
use Rattle.numbers.specs.Words.{ℕ, zero, suc, mul-le-mul, arith, refl, sym, ◌∙◌, ap, subst, true, ⊎_elim, eq_or, List, length, get_or, set, Ok}
use Rattle.header.specs.declared.frame.Frame.{Frame}
use Rattle.lent.specs.Memory.{Memory, packed, column_set}
use Rattle.macroblock.specs.Macroblock.{Finished, Step, finished, no_modes, no_tokens}
use Rattle.modes.specs.declared.contexts.Context.{Context}
use Rattle.modes.specs.Modes.{empty_context, context_fine_of}
use Rattle.picture.specs.Picture.{Picture, State, Ended, cut_out, start_of, column_of, partition_of, step_at, next_of, run_of, Live}
use Rattle.picture.specs.PictureLaws.{room_at, ends_at, partition_below, run_none, run_finished, run_no_modes, run_no_tokens}
use Rattle.reader.specs.declared.boolean.Reader.{Reader}
use Rattle.reader.specs.Reading.{no_reader_of}
use Rattle.tile.specs.declared.Tile.{Tile}
use Rattle.tile.specs.Tile.{readers_of, pick_of}
use Rattle.tile.specs.PartitionsLaws.{pick_none, pick_below}
use Rattle.writer.specs.declared.Writer.{Writer}
use Rattle.writer.specs.Encoder.{Encoder, fresh, write_all}
use Rattle.writer.specs.EncoderLaws.{Ready, fresh_ready}
use Rattle.writer.specs.Room.{written_of, fresh_writer}
use Rattle.writer.specs.KeptLaws.{Kept, kept_fresh}
use Rattle.writer.specs.WriteLaws.{write_append, write_none, write_grows}
use Rattle.recode.specs.declared.turn.Turned.{Turned}
use Rattle.recode.specs.Recode.{read_by, tokens_from}
use Rattle.recode.specs.RecodeLaws.{Sound, read_by_lem, both_at_lem, tokens_finished, ready_here, live_after, whole_not_modes, whole_not_tokens}
use Rattle.recode.specs.TurnCopies.{TurnCopies}

-- a picture that runs whole from the memory m, and F its tokens written
pub record Walkable (P : Picture) (S : State) (M : ℕ) (end : Memory) (F : Encoder) : Type 0 where
  pub sound : Sound P
  pub live : Live P S
  pub whole : run_of (P.wide * P.high) P 0 S ≡ record { answer = Ok M; mem = end }
  pub paid : write_all fresh (tokens_from (P.wide * P.high) P 0 S) ≡ F
  pub small : length F.out < 9223372036854775808

-- what the walk leaves
pub record Walked (F : Encoder) (end : Memory) (old : List ℕ) (w : Writer) (columns room : List ℕ) : Type 0 where
  pub columns' : columns ≡ end.columns
  pub ready : Ready 128 F
  pub kept : Kept F old (written_of w room)

-- its contract
abbrev pub WalkCopies : List ℕ → Tile → Frame → List ℕ → (columns room : List ℕ) → Writer → (after new : List ℕ) → Type 0
WalkCopies bytes tile frame table columns room w after new =
    (m : Memory) (M : ℕ) (end : Memory) (F : Encoder) → m.columns ≡ columns → Walkable (cut_out packed bytes tile frame table) (start_of bytes tile m) M end F → Walked F end room w after new

-- ---- at macroblock k: the code's values are those of the picture's state S
pub record Here (P : Picture) (M : ℕ) (end : Memory) (F : Encoder) (old : List ℕ) (k : ℕ) (r : Reader) (readers : List Reader) (left : Context) (w : Writer) (columns room : List ℕ) : Type 0 where
  pub S : State
  pub rest : ℕ
  pub sum : k + rest ≡ P.wide * P.high
  pub same : run_of rest P k S ≡ record { answer = Ok M; mem = end }
  pub live : Live P S
  pub e : Encoder
  pub paid : write_all e (tokens_from rest P k S) ≡ F
  pub ready : Ready 128 e
  pub kept : Kept e old (written_of w room)
  pub reader : r ≡ S.reader
  pub readers' : readers ≡ S.readers
  pub left' : left ≡ S.left
  pub columns' : columns ≡ S.mem.columns

pub record Walking (bytes : List ℕ) (tile : Tile) (frame : Frame) (table columns₀ room₀ : List ℕ) (k : ℕ) (r : Reader) (readers : List Reader) (left : Context) (w : Writer) (columns room : List ℕ) : Type 0 where
  pub long : length columns ≡ length columns₀
  pub size : length room ≡ length room₀
  pub way : (m : Memory) (M : ℕ) (end : Memory) (F : Encoder) → m.columns ≡ columns₀ → Walkable (cut_out packed bytes tile frame table) (start_of bytes tile m) M end F
      → Here (cut_out packed bytes tile frame table) M end F room₀ k r readers left w columns room

pub walking_start : (bytes : List ℕ) (tile : Tile) (frame : Frame) (table columns room : List ℕ) {readers : List Reader} {left : Context} {w : Writer} → readers ≡ readers_of bytes tile → left ≡ empty_context → w ≡ fresh_writer
    → Walking bytes tile frame table columns room 0 tile.reader readers left w columns room
walking_start bytes tile frame table columns room a b c =
    record {
      long = refl;
      size = refl;
      way = λ m M end F f z. record {
        S = start_of bytes tile m;
        rest = (cut_out packed bytes tile frame table).wide * (cut_out packed bytes tile frame table).high;
        sum = omega arith;
        same = z.whole;
        live = z.live;
        e = fresh;
        paid = z.paid;
        ready = fresh_ready;
        kept = subst (λ (x : Writer). Kept fresh room (written_of x room)) (sym c) (kept_fresh room);
        reader = refl;
        readers' = a;
        left' = b;
        columns' = sym f;
      };
    }

-- ---- one macroblock
module _ (P : Picture) {M : ℕ} {end : Memory} {F : Encoder} {old : List ℕ} {k : ℕ} {r : Reader} {readers : List Reader} {left : Context} {w : Writer} {columns room : List ℕ} (z : Sound P) (s : length F.out < 9223372036854775808)
    (h : Here P M end F old k r readers left w columns room) (l : k < P.wide * P.high) {q : Turned} {after new : List ℕ}
    (c : TurnCopies P.form P.first (P.token (partition_of P k)) P.table (record { first = r; token = get_or readers (partition_of P k) no_reader_of; writer = w; frame = P.frame; left = left; column = column_of P k }) columns room q after new) where
  -- with the values of the state
  stated : TurnCopies P.form P.first (P.token (partition_of P k)) P.table (record { first = h.S.reader; token = get_or h.S.readers (partition_of P k) no_reader_of; writer = w; frame = P.frame; left = h.S.left; column = column_of P k }) h.S.mem.columns room q after new
  stated =
      subst (λ (x : List ℕ). TurnCopies P.form P.first (P.token (partition_of P k)) P.table (record { first = h.S.reader; token = get_or h.S.readers (partition_of P k) no_reader_of; writer = w; frame = P.frame; left = h.S.left; column = column_of P k }) x room q after new) h.columns'
      (subst (λ (x : Context). TurnCopies P.form P.first (P.token (partition_of P k)) P.table (record { first = h.S.reader; token = get_or h.S.readers (partition_of P k) no_reader_of; writer = w; frame = P.frame; left = x; column = column_of P k }) columns room q after new) h.left'
      (subst (λ (x : List Reader). TurnCopies P.form P.first (P.token (partition_of P k)) P.table (record { first = h.S.reader; token = get_or x (partition_of P k) no_reader_of; writer = w; frame = P.frame; left = left; column = column_of P k }) columns room q after new) h.readers'
      (subst (λ (x : Reader). TurnCopies P.form P.first (P.token (partition_of P k)) P.table (record { first = x; token = get_or readers (partition_of P k) no_reader_of; writer = w; frame = P.frame; left = left; column = column_of P k }) columns room q after new) h.reader
      c)))

  next : (n : ℕ) → k + suc n ≡ P.wide * P.high → run_of (suc n) P k h.S ≡ record { answer = Ok M; mem = end } → write_all h.e (tokens_from (suc n) P k h.S) ≡ F → (x : Finished) → step_at P k h.S ≡ finished x
      → Here P M end F old (k + 1) q.first (set readers (partition_of P k) q.token) q.left q.writer after new
  next n a b p x e =
      let S = h.S in
      let g = both_at_lem P k S e in
      let G : Encoder = write_all h.e (read_by P k S) in
      let paid : write_all G (tokens_from n P (k + 1) (next_of P k S x)) ≡ F = sym (write_append h.e (read_by P k S) (tokens_from n P (k + 1) (next_of P k S x))) ∙ ap (write_all h.e) (sym (tokens_finished P k S n e)) ∙ p in
      let few : length G.out < 9223372036854775808 = (let u = write_grows G (tokens_from n P (k + 1) (next_of P k S x)) in let v : length (write_all G (tokens_from n P (k + 1) (next_of P k S x))).out ≡ length F.out = ap (λ (y : Encoder). length y.out) paid in omega arith) in
      let fine : context_fine_of x.top ≡ true = (ends_at P S k z.shared h.live l z.first (z.tokens (partition_of P k) (partition_below P k l z.shared.least)) x e).top in
      let t = stated x.modes g.model x.readers.first x.readers.token G old
      (record {
        inside = (room_at P S k z.shared h.live l).columns;
        ready = ready_here P k S z h.live l;
        modes = g.modes;
        fine = subst (λ (y : Context). context_fine_of y ≡ true) g.top fine;
        tokens' = record { e = h.e; gives = g.coefficients; paid = ap (write_all h.e) (sym (read_by_lem P k S g.modes)); small = few; ready = h.ready; kept = h.kept };
      }) in
      record {
        S = next_of P k S x;
        rest = n;
        sum = omega arith;
        same = sym (run_finished n P k S x e) ∙ b;
        live = live_after P k S z h.live l e;
        e = G;
        paid = paid;
        ready = t.ready;
        kept = t.kept;
        reader = t.first;
        readers' = λ i. set (h.readers' i) (partition_of P k) (t.token i);
        left' = t.left ∙ sym g.left;
        columns' = t.columns' ∙ ap (column_set P.form S.mem.columns (column_of P k)) (sym g.top);
      }

  pub here_next : Here P M end F old (k + 1) q.first (set readers (partition_of P k) q.token) q.left q.writer after new
  here_next = go h.rest h.sum h.same h.paid
    where
      by : (n : ℕ) → k + suc n ≡ P.wide * P.high → run_of (suc n) P k h.S ≡ record { answer = Ok M; mem = end } → write_all h.e (tokens_from (suc n) P k h.S) ≡ F → (x : Step) → step_at P k h.S ≡ x
          → Here P M end F old (k + 1) q.first (set readers (partition_of P k) q.token) q.left q.writer after new
      by n a b p (finished x) e = next n a b p x e
      by n a b p no_modes e = absurd (whole_not_modes (sym (run_no_modes n P k h.S e) ∙ b))
      by n a b p no_tokens e = absurd (whole_not_tokens (sym (run_no_tokens n P k h.S e) ∙ b))

      go : (n : ℕ) → k + n ≡ P.wide * P.high → run_of n P k h.S ≡ record { answer = Ok M; mem = end } → write_all h.e (tokens_from n P k h.S) ≡ F
          → Here P M end F old (k + 1) q.first (set readers (partition_of P k) q.token) q.left q.writer after new
      go zero a b p = absurd (omega arith)
      go (suc n) a b p = by n a b p (step_at P k h.S) refl

here_end : (P : Picture) {M : ℕ} {end : Memory} {F : Encoder} {old : List ℕ} {k : ℕ} {r : Reader} {readers : List Reader} {left : Context} {w : Writer} {columns room : List ℕ} → Here P M end F old k r readers left w columns room → P.wide * P.high ≤ k → Walked F end old w columns room
unfolding tokens_from
here_end P {M} {end} {F} {old} {k} {w = w} {columns} {room} h l = go h.rest h.sum h.same h.paid
  where
    go : (n : ℕ) → k + n ≡ P.wide * P.high → run_of n P k h.S ≡ record { answer = Ok M; mem = end } → write_all h.e (tokens_from n P k h.S) ≡ F → Walked F end old w columns room
    go zero a b p =
        let m : h.S.mem ≡ end = ap (λ (x : Ended). x.mem) (sym (run_none P k h.S) ∙ b) in
        let f : h.e ≡ F = sym (write_none h.e) ∙ p in
        record { columns' = h.columns' ∙ ap (λ (x : Memory). x.columns) m; ready = subst (Ready 128) f h.ready; kept = subst (λ (x : Encoder). Kept x old (written_of w room)) f h.kept }
    go (suc n) a b p = absurd (omega arith)

module _ {bytes : List ℕ} {tile : Tile} {frame : Frame} {table columns₀ room₀ : List ℕ} {k : ℕ} {r : Reader} {readers : List Reader} {left : Context} {w : Writer} {columns room : List ℕ} (v : Walking bytes tile frame table columns₀ room₀ k r readers left w columns room) where
  abbrev pic : Picture
  pic = cut_out packed bytes tile frame table

  pub walking_next : k < tile.width / 16 * (tile.height / 16) → {first tokens : List ℕ} {p : ℕ} {t : Reader} {q : Turned} {after new : List ℕ} → first ≡ (cut_out packed bytes tile frame table).first → p ≡ pick_of (k / (tile.width / 16)) tile.count → t ≡ get_or readers p no_reader_of
      → tokens ≡ (cut_out packed bytes tile frame table).token p
      → TurnCopies packed first tokens table (record { first = r; token = t; writer = w; frame = frame; left = left; column = k % (tile.width / 16) }) columns room q after new → length after ≡ length columns → length new ≡ length room
      → Walking bytes tile frame table columns₀ room₀ (k + 1) q.first (set readers p q.token) q.left q.writer after new
  walking_next l {first} {tokens} {p} {t} {q} {after} {new} a b c d f g i =
      record {
        long = g ∙ v.long;
        size = i ∙ v.size;
        way = λ m M end F y z.
            let o : TurnCopies packed pic.first (pic.token (partition_of pic k)) table (record { first = r; token = get_or readers (partition_of pic k) no_reader_of; writer = w; frame = frame; left = left; column = column_of pic k }) columns room q after new =
            subst (λ (x : ℕ). TurnCopies packed pic.first (pic.token x) table (record { first = r; token = get_or readers x no_reader_of; writer = w; frame = frame; left = left; column = column_of pic k }) columns room q after new) b
            (subst (λ (x : List ℕ). TurnCopies packed x (pic.token p) table (record { first = r; token = get_or readers p no_reader_of; writer = w; frame = frame; left = left; column = column_of pic k }) columns room q after new) a
            (subst (λ (x : List ℕ). TurnCopies packed first x table (record { first = r; token = get_or readers p no_reader_of; writer = w; frame = frame; left = left; column = column_of pic k }) columns room q after new) d
            (subst (λ (x : Reader). TurnCopies packed first tokens table (record { first = r; token = x; writer = w; frame = frame; left = left; column = column_of pic k }) columns room q after new) c f))) in
            subst (λ (x : ℕ). Here pic M end F room₀ (k + 1) q.first (set readers x q.token) q.left q.writer after new) (sym b)
            (here_next pic z.sound z.small (v.way m M end F y z) l o);
      }

  pub walking_end : tile.width / 16 * (tile.height / 16) ≤ k → WalkCopies bytes tile frame table columns₀ room₀ w columns room
  walking_end l m M end F y z = here_end pic (v.way m M end F y z) l

-- ---- numbers
pub pick_eight : {p : ℕ} (row count : ℕ) → p ≡ pick_of row count → count ≤ 8 → p < 8
pick_eight row count e h =
    ⊎_elim
    (λ (z : count ≡ 0). omega (arith, e, pick_none row count z))
    (λ (z : count ≡ 0 → ⊥). omega (arith, e, pick_below row count (omega arith)))
    (eq_or count 0)

pub blocks_most : (w h : ℕ) → w ≤ 16384 → h ≤ 16384 → w / 16 * (h / 16) ≤ 1048576
blocks_most w h a b = mul-le-mul {n₁ = w / 16} {m₁ = h / 16} {n₂ = 1024} {m₂ = 1024} (omega arith) (omega arith)

pub some_wide : (w h k : ℕ) → k < w * h → 0 < w
some_wide zero h k l = absurd (omega arith)
some_wide (suc w) h k l = omega arith
