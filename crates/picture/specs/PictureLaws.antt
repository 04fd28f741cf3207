-- The laws of the picture: one turn of its recursion; what every macroblock finds and leaves; what a macroblock's call asks.
use Rattle.std.specs.Prelude.{◌+◌, ◌*◌, ◌≤◌, ◌<◌, ◌≡◌}
use Rattle.numbers.specs.Words.{ℕ, zero, suc, div-lt_iff_lt-mul, mod-lt, mul_comm, arith, refl, ◌∙◌, true, ⊎_elim, eq_or, List, get_or, set, length-set, get_or-set_other, get_or-set_same, Ok, Err}
use Rattle.reader.specs.Reading.{no_reader_of}
use Rattle.reader.specs.ReadingLaws.{Bytes, Valid}
use Rattle.modes.specs.Modes.{kinds_of, context_fine_of, Shaped}
use Rattle.modes.specs.declared.contexts.Context.{Context}
use Rattle.modes.specs.ContextsLaws.{contexts_fine_lem}
use Rattle.header.specs.declared.frame.Frame.{Frame}
use Rattle.macroblock.specs.declared.arguments.Around.{Around}
use Rattle.lent.specs.Memory.{records_in, form_width, column_at}
use Rattle.lent.specs.ColumnsLaws.{column_room, columns_set, column_set_length, column_shaped}
use Rattle.lent.specs.MacroblocksLaws.{mode_set_length, strength_set_length}
use Rattle.tile.specs.PartitionsLaws.{pick_below}
use Rattle.macroblock.specs.Macroblock.{Finished, finished, no_modes, no_tokens, step_of, Ready, Laid}
use Rattle.macroblock.specs.DecodeLaws.{flags_of}
use Rattle.choices.specs.declared.answer.Stop.TheVariants as Stop
use Rattle.picture.specs.declared.turn.Task.{Task}
use Rattle.picture.specs.Picture.{Turned, turned, Room, Shared, Live, Picture, State, column_of, row_of, partition_of, planes_in, place_of, readers_at, around_at, step_at, next_of, run_of}
use Rattle.choices.specs.ChoicesLaws.{beside_none, beside_left}
use Rattle.picture.specs.TurnLaws.{Ends, ends_of}
use Rattle.choices.specs.Choices.{beside_of}

-- ---- one turn
pub run_none : (P : Picture) (k : ℕ) (S : State) → run_of 0 P k S ≡ record { answer = Ok k; mem = S.mem }
unfolding run_of
run_none P k S = refl

module _ (n : ℕ) (P : Picture) (k : ℕ) (S : State) where
  pub run_finished : (x : Finished) → step_at P k S ≡ finished x → run_of (suc n) P k S ≡ run_of n P (k + 1) (next_of P k S x)
  unfolding run_of
  run_finished x e = rw (e, run_of)

  pub run_no_modes : step_at P k S ≡ no_modes → run_of (suc n) P k S ≡ record { answer = Err (Stop.NoModes k); mem = S.mem }
  unfolding run_of
  run_no_modes e = rw (e, run_of)

  pub run_no_tokens : step_at P k S ≡ no_tokens → run_of (suc n) P k S ≡ record { answer = Err (Stop.NoTokens k); mem = S.mem }
  unfolding run_of
  run_no_tokens e = rw (e, run_of)

-- one macroblock written out: its partitions and readers, the contexts around it, its place, the planes
pub step_at_lem : (P : Picture) (k : ℕ) (S : State)
    → step_at P k S ≡ step_of P.first (P.token (partition_of P k)) (readers_at S (partition_of P k)) P.frame P.table (around_at P S (column_of P k)) (place_of P k) (planes_in S.mem)
unfolding step_at
step_at_lem P k S = refl

-- ---- the place of macroblock k
module _ (P : Picture) (k : ℕ) (h : k < P.wide * P.high) where
  some : 0 < P.wide
  some = go P.wide h
    where
      go : (w : ℕ) → k < w * P.high → 0 < w
      go zero h = absurd (omega arith)
      go (suc w) h = omega arith

  pub column_below : column_of P k < P.wide
  column_below = mod-lt k {m = P.wide} some

  pub row_below : row_of P k < P.high
  row_below = (div-lt_iff_lt-mul some).1 (rw (mul_comm P.high P.wide) h)

  pub partition_below : 1 ≤ P.count → partition_of P k < P.count
  partition_below l = pick_below (row_of P k) P.count l

beside_fine : (column : ℕ) (left : Context) → context_fine_of left ≡ true → Shaped left → (context_fine_of (beside_of column left) ≡ true) × Shaped (beside_of column left)
beside_fine column left e z = ⊎_elim
    (λ (c : column ≡ 0). rw (beside_none column left c) (refl, record { modes = refl; flags = refl }))
    (λ c. rw (← beside_left column left c) (e, z))
    (eq_or column 0)

-- what macroblock k is decoded with
abbrev pub task_at : Picture → ℕ → State → Task
task_at P k S = record { readers = readers_at S (partition_of P k); frame = P.frame; left = S.left; place = place_of P k; k = k }

-- as the code makes it, with the partition and the frame that it worked out
pub task_is : (P : Picture) (k : ℕ) (S : State) {t : Task} {q : ℕ} {f : Frame} → t ≡ record { readers = readers_at S q; frame = f; left = S.left; place = place_of P k; k = k }
    → q ≡ partition_of P k → f ≡ P.frame → t ≡ task_at P k S
task_is P k S e c b = e ∙ (λ o. record { readers = readers_at S (c o); frame = b o; left = S.left; place = place_of P k; k = k })

-- the contexts that it finds
abbrev pub around_task : Picture → State → Task → Around
around_task P S t = record { top = column_at P.form S.mem.columns t.place.column; left = beside_of t.place.column t.left }

-- the turn that the code takes is macroblock k's
pub turn_at : (P : Picture) (k : ℕ) (S : State) {T : Turned} {t : Task} (first tokens : List ℕ)
    → T ≡ turned P.form t.left t.k t.place.column S.mem (step_of first tokens t.readers t.frame P.table (around_task P S t) t.place (planes_in S.mem))
    → t ≡ task_at P k S → first ≡ P.first → tokens ≡ P.token (partition_of P k)
    → T ≡ turned P.form S.left k (column_of P k) S.mem (step_at P k S)
unfolding step_at
turn_at P k S first tokens e g f d =
    e ∙ (λ o. turned P.form (g o).left (g o).k (g o).place.column S.mem (step_of (f o) (d o) (g o).readers (g o).frame P.table (around_task P S (g o)) (g o).place (planes_in S.mem)))

module _ (P : Picture) (S : State) (k : ℕ) (s : Shared P) (l : Live P S) (h : k < P.wide * P.high) where
  -- what its call asks
  pub laid_at : Laid (place_of P k) (planes_in S.mem)
  laid_at = record {
    columns = P.wide;
    rows = P.high;
    width = refl;
    wide = omega (arith, s.wide);
    high = omega (arith, s.high);
    across = column_below P k h;
    down = row_below P k h;
    luma = l.y;
    blue = l.u;
    red = l.v;
  }

  pub room_at : Room P.form (column_of P k) k S.mem.columns S.mem.modes S.mem.strengths
  room_at = record {
    columns = column_room P.form S.mem.columns l.columns (column_below P k h);
    modes = rw l.modes (omega arith);
    strengths = rw l.strengths (omega arith);
  }

  -- its readers and contexts, for a column and a partition that the code works out
  pub ready_at : (column q : ℕ) → column < P.wide → q < P.count → {first tokens : List ℕ} → first ≡ P.first → tokens ≡ P.token q
      → Ready first tokens (readers_at S q) P.frame P.table (around_at P S column)
  ready_at column q c d f e =
      let room : column < records_in (form_width P.form) S.mem.columns = column_room P.form S.mem.columns l.columns c in
      let b = beside_fine column S.left l.left l.beside in
      let a = l.contexts column room in
      record {
        reader = rw f l.reader;
        token = rw e (l.tokens q d);
        size = s.size;
        contexts = contexts_fine_lem (column_at P.form S.mem.columns column) (beside_of column S.left) a b.0;
        top = flags_of (column_at P.form S.mem.columns column) (column_shaped P.form S.mem.columns column).flags a;
        left = flags_of (beside_of column S.left) b.1.flags b.0;
        sound = s.sound;
      }

  -- all that the turn asks
  pub turn_asks : {t : Task} {first tokens : List ℕ} → t ≡ task_at P k S → first ≡ P.first → tokens ≡ P.token (partition_of P k)
      → Ready first tokens t.readers t.frame P.table (around_task P S t)
      × (Laid t.place (planes_in S.mem) × Room P.form t.place.column t.k S.mem.columns S.mem.modes S.mem.strengths)
  turn_asks e f d = rw e (ready_at (column_of P k) (partition_of P k) (column_below P k h) (partition_below P k h s.least) f d, (laid_at, room_at))

  pub ends_at : Bytes P.first → Bytes (P.token (partition_of P k)) → (x : Finished) → step_at P k S ≡ finished x → Ends P.first (P.token (partition_of P k)) (planes_in S.mem) x
  unfolding step_at
  ends_at a b =
      ends_of P.first (P.token (partition_of P k)) (readers_at S (partition_of P k)) P.frame P.table (around_at P S (column_of P k)) (place_of P k) (planes_in S.mem)
      (ready_at (column_of P k) (partition_of P k) (column_below P k h) (partition_below P k h s.least) refl refl) laid_at a b s.bytes

  -- and what it leaves
  pub live_next : (x : Finished) → Ends P.first (P.token (partition_of P k)) (planes_in S.mem) x → Live P (next_of P k S x)
  live_next x z = record {
    reader = z.reader;
    eight = length-set S.readers (partition_of P k) x.readers.token ∙ l.eight;
    tokens = valid;
    left = z.left;
    beside = z.left_sized;
    contexts = columns_set P.form S.mem.columns (column_of P k) x.top l.contexts room_at.columns z.top_sized z.top;
    y = z.y ∙ l.y;
    u = z.u ∙ l.u;
    v = z.v ∙ l.v;
    columns = column_set_length P.form S.mem.columns (column_of P k) x.top ∙ l.columns;
    modes = mode_set_length S.mem.modes k (kinds_of x.modes) x.modes.modes ∙ l.modes;
    strengths = strength_set_length S.mem.strengths k x.strength (kinds_of x.modes) ∙ l.strengths;
  }
    where
      valid : (q : ℕ) → q < P.count → Valid (P.token q) (get_or (set S.readers (partition_of P k) x.readers.token) q no_reader_of)
      valid q g = ⊎_elim
          (λ (e : q ≡ partition_of P k). rw (e, get_or-set_same S.readers (partition_of P k) x.readers.token no_reader_of (rw l.eight (omega (arith, partition_below P k h s.least, s.most)))) z.token)
          (λ e. rw (get_or-set_other S.readers (partition_of P k) q x.readers.token no_reader_of e) (l.tokens q g))
          (eq_or q (partition_of P k))
