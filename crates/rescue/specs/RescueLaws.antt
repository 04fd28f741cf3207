-- The laws of the rescue call: one macroblock after the stop, one turn of the recursion, the marks, the call.
use Rattle.std.specs.Prelude.{◌+◌, ◌*◌, ◌/◌, ◌%◌, ◌≤◌, ◌<◌, ◌≡◌}
use Rattle.numbers.specs.Words.{ℕ, zero, suc, arith, refl, sym, ◌∙◌, ap, ap₂, subst, le-ltb, lt-ltb, List, length, get_or, build, length_build, get_or_build, Ok, Err}
use Rattle.reader.specs.declared.boolean.Reader.{Reader}
use Rattle.reader.specs.Reading.{no_reader_of}
use Rattle.reader.specs.ReadingLaws.{Bytes, Valid}
use Rattle.header.specs.declared.frame.Frame.{Frame}
use Rattle.modes.specs.declared.contexts.Context.{Context}
use Rattle.lent.specs.Memory.{Memory, sizes_of, column_at}
use Rattle.tile.specs.Tile.{blocks_of}
use Rattle.macroblock.specs.declared.arguments.Place.{Place}
use Rattle.macroblock.specs.declared.arguments.Readers.{Readers}
use Rattle.macroblock.specs.declared.arguments.Around.{Around}
use Rattle.macroblock.specs.Macroblock.{Planes, Finished, Step, finished, no_modes, no_tokens, MacroblockCalled, to_macroblock_called, Laid, Legible}
use Rattle.macroblock.specs.Rebuilt.{rebuilt_of, rebuild_call_of}
use Rattle.macroblock.specs.DecodeLaws.{ready_legible}
use Rattle.macroblock.specs.RebuiltLaws.{rebuild_good, rebuilt_never, rebuilt_ends, rebuilt_outside, rebuilt_strength, with_token, rebuilt_token, rebuilt_token_none}
use Rattle.macroblock.specs.StepLaws.{Elsewhere}
use Rattle.choices.specs.declared.answer.Refusal.{Refusal}
use Rattle.choices.specs.Choices.{Call, named, told_by, values_of, beside_of}
use Rattle.picture.specs.Picture.{Picture, State, pictured_of, column_of, partition_of, planes_in, place_of, readers_at, around_at, written, next_of, Turned, turned, Room, Shared, Live}
use Rattle.picture.specs.declared.turn.Task.{Task}
use Rattle.picture.specs.TurnLaws.{Ends, ends_from}
use Rattle.picture.specs.PictureLaws.{task_at, around_task, live_next, column_below, partition_below, laid_at, room_at, ready_at}
use Rattle.picture.specs.Halt.{Halted, halted_of}
use Rattle.picture.specs.HaltLaws.{Alive, halted_alive}
use Rattle.rescue.specs.ChecksLaws.{rescue_fine}
use Rattle.rescue.specs.Rescue.{Held, rescue_refusal_of, rescue_checked_of, rebuilt_at, Saved, saved_at, rest_of, gone_on, mark_of_of, marks_of, rescue_ended, rescued, saved_of, rescue_of}

-- ---- one macroblock
-- the call, its arguments being good
pub rebuild_is : (first : List ℕ) (readers : Readers) (f : Frame) {a b : Context} (top left : Context) (place : Place) (p : Planes) {x : MacroblockCalled}
    → x ≡ rebuild_call_of first readers f (record { top = a; left = b }) place p → a ≡ top → b ≡ left
    → Legible first readers.first f (record { top = top; left = left }) → Laid place p
    → x ≡ to_macroblock_called p (rebuilt_of first readers f (record { top = top; left = left }) place p)
rebuild_is first readers f top left place p e c d g l =
    e ∙ ap₂ (λ (x y : Context). rebuild_call_of first readers f (record { top = x; left = y }) place p) c d
    ∙ rebuild_good first readers f (record { top = top; left = left }) place p g l

-- what it leaves is in range
pub ends_rebuilt : (first tokens : List ℕ) (readers : Readers) (f : Frame) (around : Around) (place : Place) (p : Planes)
    → Legible first readers.first f around → Laid place p → Bytes first → Valid tokens readers.token
    → (x : Finished) → rebuilt_of first readers f around place p ≡ finished x → Ends first tokens p x
ends_rebuilt first tokens readers f around place p g l a v x e =
    ends_from (rebuilt_ends first readers f around place p g a e tokens v) (rebuilt_outside first readers f around place p g a e tokens v l)
    (rebuilt_strength first readers f around place p g a e)

-- ---- macroblock k in its place
-- written out
pub rebuilt_at_lem : (P : Picture) (k : ℕ) (S : State)
    → rebuilt_at P k S ≡ rebuilt_of P.first (readers_at S (partition_of P k)) P.frame (around_at P S (column_of P k)) (place_of P k) (planes_in S.mem)
unfolding rebuilt_at
rebuilt_at_lem P k S = refl

pub at_never : (P : Picture) (k : ℕ) (S : State) → rebuilt_at P k S ≡ no_tokens → ⊥
unfolding rebuilt_at
at_never P k S e = rebuilt_never P.first (readers_at S (partition_of P k)) P.frame (around_at P S (column_of P k)) (place_of P k) (planes_in S.mem) e

-- the turn that the code takes is macroblock k's
pub rebuilt_turn : (P : Picture) (k : ℕ) (S : State) {T : Turned} {t : Task} (first : List ℕ)
    → T ≡ turned P.form t.left t.k t.place.column S.mem (rebuilt_of first t.readers t.frame (around_task P S t) t.place (planes_in S.mem))
    → t ≡ task_at P k S → first ≡ P.first → T ≡ turned P.form S.left k (column_of P k) S.mem (rebuilt_at P k S)
unfolding rebuilt_at
rebuilt_turn P k S first e g a =
    e ∙ (λ o. turned P.form (g o).left (g o).k (g o).place.column S.mem (rebuilt_of (a o) (g o).readers (g o).frame (around_task P S (g o)) (g o).place (planes_in S.mem)))

module _ (P : Picture) (S : State) (k : ℕ) (s : Shared P) (l : Live P S) (h : k < P.wide * P.high) where
  -- what its call asks
  pub legible_at : {first : List ℕ} → first ≡ P.first → Legible first S.reader P.frame (around_at P S (column_of P k))
  legible_at a = ready_legible (ready_at P S k s l h (column_of P k) (partition_of P k) (column_below P k h) (partition_below P k h s.least) a refl)

  pub rebuilt_asks : {t : Task} {first : List ℕ} → t ≡ task_at P k S → first ≡ P.first
      → Legible first t.readers.first t.frame (around_task P S t)
      × (Held t.readers.token × (Laid t.place (planes_in S.mem) × Room P.form t.place.column t.k S.mem.columns S.mem.modes S.mem.strengths))
  rebuilt_asks e a =
      rw e
      (legible_at a, (record { tokens = P.token (partition_of P k); valid = l.tokens (partition_of P k) (partition_below P k h s.least) }, (laid_at P S k s l h, room_at P S k s l h)))

  -- what it leaves
  module _ (a : Bytes P.first) (x : Finished) (e : rebuilt_at P k S ≡ finished x) where
    pub ends_rebuilt_at : Ends P.first (P.token (partition_of P k)) (planes_in S.mem) x
    ends_rebuilt_at =
        ends_rebuilt P.first (P.token (partition_of P k)) (readers_at S (partition_of P k)) P.frame (around_at P S (column_of P k)) (place_of P k) (planes_in S.mem)
        (legible_at refl) (laid_at P S k s l h) a (l.tokens (partition_of P k) (partition_below P k h s.least)) x (sym (rebuilt_at_lem P k S) ∙ e)

    -- and what it does not touch
    pub outside_rebuilt_at : Elsewhere (place_of P k) (planes_in S.mem) x.planes
    outside_rebuilt_at =
        rebuilt_outside P.first (readers_at S (partition_of P k)) P.frame (around_at P S (column_of P k)) (place_of P k) (planes_in S.mem)
        (legible_at refl) a (sym (rebuilt_at_lem P k S) ∙ e) (P.token (partition_of P k)) (l.tokens (partition_of P k) (partition_below P k h s.least)) (laid_at P S k s l h)

-- ---- one turn
pub rest_none : (P : Picture) (k : ℕ) (S : State) → rest_of 0 P k S ≡ saved_at k S.mem
unfolding rest_of
rest_none P k S = refl

module _ (n : ℕ) (P : Picture) (k : ℕ) (S : State) where
  pub rest_rebuilt : (x : Finished) → rebuilt_at P k S ≡ finished x → rest_of (suc n) P k S ≡ rest_of n P (k + 1) (next_of P k S x)
  unfolding rest_of
  rest_rebuilt x e = rw (e, rest_of)

  pub rest_no_modes : rebuilt_at P k S ≡ no_modes → rest_of (suc n) P k S ≡ saved_at k S.mem
  unfolding rest_of
  rest_no_modes e = rw (e, rest_of)

-- ---- the marks
module _ (whole saved i : ℕ) where
  pub mark_whole : i < whole → 0 ≡ mark_of_of whole saved i
  unfolding mark_of_of
  mark_whole h = rw (lt-ltb i whole h, mark_of_of)

  pub mark_modes : whole ≤ i → i < saved → 1 ≡ mark_of_of whole saved i
  unfolding mark_of_of
  mark_modes h g = rw (le-ltb i whole h, lt-ltb i saved g, mark_of_of)

  pub mark_grey : whole ≤ i → saved ≤ i → 2 ≡ mark_of_of whole saved i
  unfolding mark_of_of
  mark_grey h g = rw (le-ltb i whole h, le-ltb i saved g, mark_of_of)

pub marks_built : {l : List ℕ} (M whole saved : ℕ) → l ≡ build M (mark_of_of whole saved) → l ≡ marks_of M whole saved
unfolding marks_of
marks_built M whole saved e = e

pub marks_length : (M whole saved : ℕ) → length (marks_of M whole saved) ≡ M
unfolding marks_of
marks_length M whole saved = length_build M (mark_of_of whole saved)

pub marks_at : (M whole saved i : ℕ) → i < M → get_or (marks_of M whole saved) i 0 ≡ mark_of_of whole saved i
unfolding marks_of
marks_at M whole saved i h = get_or_build M (mark_of_of whole saved) i 0 h

-- ---- the call
module _ (t : Call) (m : Memory) (marks : List ℕ) {n : ℕ} (e : n ≡ rescue_refusal_of t (sizes_of m) (length marks)) where
  pub rescue_bad : (n ≡ 0 → ⊥) → rescue_ended (Err (named n)) m marks ≡ rescue_of t m marks
  unfolding rescue_of
  rescue_bad f = go n e f
    where
      go : (k : ℕ) → k ≡ rescue_refusal_of t (sizes_of m) (length marks) → (k ≡ 0 → ⊥) → rescue_ended (Err (named k)) m marks ≡ rescue_of t m marks
      go zero e f = absurd (f refl)
      go (suc k) e f = rw (← e, rescue_of)

  pub rescue_good : n ≡ 0 → rescue_of t m marks ≡ rescued (blocks_of t.tile.width t.tile.height) (halted_of t m) (saved_of t m)
  unfolding rescue_of
  rescue_good f = let z : rescue_refusal_of t (sizes_of m) (length marks) ≡ 0 = sym e ∙ f in rw (z, rescue_of)

-- as the code finds its checks
module _ (t : Call) (m : Memory) (marks : List ℕ) where
  pub rescue_named : {r : Refusal} → Err r ≡ rescue_checked_of t (sizes_of m) (length marks) → rescue_ended (Err r) m marks ≡ rescue_of t m marks
  rescue_named {r} f = go (rescue_refusal_of t (sizes_of m) (length marks)) f refl
    where
      go : (k : ℕ) → Err r ≡ told_by k → k ≡ rescue_refusal_of t (sizes_of m) (length marks) → rescue_ended (Err r) m marks ≡ rescue_of t m marks
      go zero f e = cc
      go (suc k) f e = let g : r ≡ named (suc k) = cc in rw g (rescue_bad t m marks e (λ z. omega arith))

  pub rescue_passed : {u : Unit {0}} → Ok u ≡ rescue_checked_of t (sizes_of m) (length marks) → rescue_refusal_of t (sizes_of m) (length marks) ≡ 0
  rescue_passed {u} f = go (rescue_refusal_of t (sizes_of m) (length marks)) f
    where
      go : (k : ℕ) → Ok u ≡ told_by k → k ≡ 0
      go zero f = refl
      go (suc k) f = cc

-- as the code finds it: the picture call with its state, what comes after its stop, and the marks of both
module _ (t : Call) (m : Memory) (marks : List ℕ) (e : rescue_refusal_of t (sizes_of m) (length marks) ≡ 0) {H : Halted} (h : H ≡ halted_of t m) where
  pub alive_found : Bytes t.bytes → Alive (pictured_of t) (blocks_of t.tile.width t.tile.height) H
  alive_found y = rw h (halted_alive t m (rescue_fine t (sizes_of m) (length marks) e).0 y)

  pub rescue_found : {s : Saved} → s ≡ gone_on (blocks_of t.tile.width t.tile.height) (pictured_of t) H.answer H.state → {whole : ℕ} → whole ≡ values_of H.answer
      → {l : List ℕ} → l ≡ marks_of (length marks) whole s.count → rescue_ended (Ok s.count) s.mem l ≡ rescue_of t m marks
  rescue_found {s} r w k =
      let z : s ≡ saved_of t m = r ∙ ap (λ (x : Halted). gone_on (blocks_of t.tile.width t.tile.height) (pictured_of t) x.answer x.state) h in
      let n = (rescue_fine t (sizes_of m) (length marks) e).1 in
      let v = w ∙ ap (λ (x : Halted). values_of x.answer) h in
      let g = k ∙ (λ i. marks_of (n i) (v i) (z i).count) in
      (λ i. rescue_ended (Ok (z i).count) (z i).mem (g i)) ∙ sym (rescue_good t m marks (sym e) refl)

-- ---- after the stop only the first partition, the frame, the width and the form of the columns decide, not the token partitions or their readers
module _ (P Q : Picture) (first : P.first ≡ Q.first) (frame : P.frame ≡ Q.frame) (wide : P.wide ≡ Q.wide) (form : P.form ≡ Q.form) where
  -- macroblock k in two states with the same reader, left context and memory
  module _ (k : ℕ) (S T : State) (r : S.reader ≡ T.reader) (l : S.left ≡ T.left) (m : S.mem ≡ T.mem) where
    moved : rebuilt_of P.first (readers_at T (partition_of Q k)) P.frame (around_at P S (column_of P k)) (place_of P k) (planes_in S.mem) ≡ rebuilt_at Q k T
    moved =
        (λ i. rebuilt_of (first i) (readers_at T (partition_of Q k)) (frame i)
        (record { top = column_at (form i) (m i).columns (k % wide i); left = beside_of (k % wide i) (l i) })
        (record { column = k % wide i; row = k / wide i; width = wide i * 16 }) (planes_in (m i)))
        ∙ sym (rebuilt_at_lem Q k T)

    abbrev token : Reader
    token = get_or T.readers (partition_of Q k) no_reader_of

    at_same : {x : Finished} → rebuilt_at P k S ≡ finished x → rebuilt_at Q k T ≡ finished (with_token x token)
    at_same e =
        sym moved
        ∙ rebuilt_token P.first (readers_at S (partition_of P k)) (readers_at T (partition_of Q k)) P.frame (around_at P S (column_of P k)) (place_of P k) (planes_in S.mem) r (sym (rebuilt_at_lem P k S) ∙ e)

    at_none : rebuilt_at P k S ≡ no_modes → rebuilt_at Q k T ≡ no_modes
    at_none e =
        sym moved
        ∙ rebuilt_token_none P.first (readers_at S (partition_of P k)) (readers_at T (partition_of Q k)) P.frame (around_at P S (column_of P k)) (place_of P k) (planes_in S.mem) r (sym (rebuilt_at_lem P k S) ∙ e)

    next_mem : (x : Finished) → (next_of P k S x).mem ≡ (next_of Q k T (with_token x token)).mem
    next_mem x = λ i. written (form i) k (k % wide i) (m i) x

  -- THE LAW: what is saved is the same
  pub rest_same : (n k : ℕ) (S T : State) → S.reader ≡ T.reader → S.left ≡ T.left → S.mem ≡ T.mem → rest_of n P k S ≡ rest_of n Q k T
  rest_same zero k S T r l m = rest_none P k S ∙ ap (saved_at k) m ∙ sym (rest_none Q k T)
  rest_same (suc n) k S T r l m = go (λ X Y. rest_same n (k + 1) X Y) (rebuilt_at P k S) refl
    where
      go : ((X Y : State) → X.reader ≡ Y.reader → X.left ≡ Y.left → X.mem ≡ Y.mem → rest_of n P (k + 1) X ≡ rest_of n Q (k + 1) Y) → (t : Step) → rebuilt_at P k S ≡ t → rest_of (suc n) P k S ≡ rest_of (suc n) Q k T
      go ih (finished x) e =
          let y = with_token x (get_or T.readers (partition_of Q k) no_reader_of) in
          rest_rebuilt n P k S x e ∙ ih (next_of P k S x) (next_of Q k T y) refl refl (next_mem k S T r l m x) ∙ sym (rest_rebuilt n Q k T y (at_same k S T r l m e))
      go ih no_modes e = rest_no_modes n P k S e ∙ ap (saved_at k) m ∙ sym (rest_no_modes n Q k T (at_none k S T r l m e))
      go ih no_tokens e = absurd (at_never P k S e)

-- ---- how many are saved: no fewer than before, and no more than there are
pub rest_least : (n : ℕ) (P : Picture) (k : ℕ) (S : State) → (k ≤ (rest_of n P k S).count) × ((rest_of n P k S).count ≤ k + n)
rest_least zero P k S = rw (rest_none P k S) (omega arith, omega arith)
rest_least (suc n) P k S = go (λ T. rest_least n P (k + 1) T) (rebuilt_at P k S) refl
  where
    go : ((T : State) → (k + 1 ≤ (rest_of n P (k + 1) T).count) × ((rest_of n P (k + 1) T).count ≤ k + 1 + n)) → (t : Step) → rebuilt_at P k S ≡ t → (k ≤ (rest_of (suc n) P k S).count) × ((rest_of (suc n) P k S).count ≤ k + suc n)
    go ih (finished x) e = let i = ih (next_of P k S x) in rw (rest_rebuilt n P k S x e) (omega (arith, i.0), omega (arith, i.1))
    go ih no_modes e = rw (rest_no_modes n P k S e) (omega arith, omega arith)
    go ih no_tokens e = absurd (at_never P k S e)

-- ---- what none of the rebuilt macroblocks touches stays
-- macroblock k, rebuilt, leaves what g reads of memory
abbrev pub KeepsToo : Picture → (Memory → ℕ) → ℕ → Type 0
KeepsToo P g k = (S : State) (x : Finished) → Live P S → rebuilt_at P k S ≡ finished x → g (next_of P k S x).mem ≡ g S.mem

module _ {P : Picture} (s : Shared P) (a : Bytes P.first) where
  pub rest_keeps : (g : Memory → ℕ) (n k : ℕ) (S : State) → Live P S → k + n ≤ P.wide * P.high → ((j : ℕ) → k ≤ j → j < (rest_of n P k S).count → KeepsToo P g j) → g (rest_of n P k S).mem ≡ g S.mem
  rest_keeps g zero k S l h f = rw (rest_none P k S)
  rest_keeps g (suc n) k S l h f = go (λ T i. rest_keeps g n (k + 1) T i (omega arith)) (rebuilt_at P k S) refl
    where
      go : ((T : State) → Live P T → ((j : ℕ) → k + 1 ≤ j → j < (rest_of n P (k + 1) T).count → KeepsToo P g j) → g (rest_of n P (k + 1) T).mem ≡ g T.mem) → (t : Step) → rebuilt_at P k S ≡ t → g (rest_of (suc n) P k S).mem ≡ g S.mem
      go ih (finished x) e =
          let T = next_of P k S x in
          let q : rest_of (suc n) P k S ≡ rest_of n P (k + 1) T = rest_rebuilt n P k S x e in
          let v : (j : ℕ) → k ≤ j → j < (rest_of n P (k + 1) T).count → KeepsToo P g j = λ j b c. f j b (subst (λ (z : Saved). j < z.count) (sym q) c) in
          ap (λ (z : Saved). g z.mem) q
          ∙ ih T (live_next P S k s l (omega arith) x (ends_rebuilt_at P S k s l (omega arith) a x e)) (λ j b c. v j (omega arith) c)
          ∙ v k (omega arith) (omega (arith, (rest_least n P (k + 1) T).0)) S x l e
      go ih no_modes e = rw (rest_no_modes n P k S e)
      go ih no_tokens e = absurd (at_never P k S e)
