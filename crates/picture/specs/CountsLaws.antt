-- The laws of a picture's counts: one turn of their recursion, the call, and how many they can be.
use Rattle.std.specs.Prelude.{◌+◌, ◌*◌, ◌≤◌, ◌<◌, ◌≡◌}
use Rattle.numbers.specs.Words.{Some, ℕ, zero, suc, arith, refl, sym, ◌∙◌, subst, List}
use Rattle.reader.specs.ReadingLaws.{Bytes}
use Rattle.coefficients.specs.Block.{table_of}
use Rattle.header.specs.declared.frame.Frame.{Frame}
use Rattle.header.specs.Frame.{framed_of}
use Rattle.lent.specs.Memory.{Memory, sizes_of, blank_of}
use Rattle.tile.specs.Tile.{span_at_of, blocks_of}
use Rattle.tile.specs.PartitionsLaws.{part_bytes}
use Rattle.macroblock.specs.Macroblock.{Finished, Step, finished, no_modes, no_tokens, no_reads, reads_of, AtMost}
use Rattle.macroblock.specs.declared.arguments.SymbolCounts.{SymbolCounts}
use Rattle.macroblock.specs.CountsLaws.{reads_most}
use Rattle.choices.specs.Choices.{Call, refusal_of, Decoded}
use Rattle.picture.specs.declared.turn.Task.{Task}
use Rattle.picture.specs.Picture.{Picture, State, column_of, partition_of, readers_at, around_at, step_at, next_of, cut_out, pictured_of, start_of, begun_of, run_of, picture_of, Shared, Live, plus, reads_at, reads_from, cost_of, asked_of}
use Rattle.picture.specs.PictureLaws.{task_at, around_task, column_below, partition_below, ready_at, ends_at, live_next, run_none, run_finished, run_no_modes, run_no_tokens}
use Rattle.picture.specs.CallLaws.{picture_bad, picture_good, picture_found, shared_start, live_start}

-- ---- one turn
pub reads_none : (P : Picture) (k : ℕ) (S : State) → reads_from 0 P k S ≡ no_reads
unfolding reads_from
reads_none P k S = refl

module _ (n : ℕ) (P : Picture) (k : ℕ) (S : State) where
  pub reads_finished : (x : Finished) → step_at P k S ≡ finished x → reads_from (suc n) P k S ≡ plus (reads_at P k S) (reads_from n P (k + 1) (next_of P k S x))
  unfolding reads_from
  reads_finished x e = rw (e, reads_from)

  pub reads_no_modes : step_at P k S ≡ no_modes → reads_from (suc n) P k S ≡ reads_at P k S
  unfolding reads_from
  reads_no_modes e = rw (e, reads_from)

  pub reads_no_tokens : step_at P k S ≡ no_tokens → reads_from (suc n) P k S ≡ reads_at P k S
  unfolding reads_from
  reads_no_tokens e = rw (e, reads_from)

-- one macroblock written out: its partitions and readers, the contexts around it
pub reads_at_lem : (P : Picture) (k : ℕ) (S : State)
    → reads_at P k S ≡ reads_of P.first (P.token (partition_of P k)) (readers_at S (partition_of P k)) P.frame P.table (around_at P S (column_of P k))
unfolding reads_at
reads_at_lem P k S = refl

-- as the code reads them
pub reads_in : (P : Picture) (k : ℕ) (S : State) {w : SymbolCounts} {t : Task} (first tokens : List ℕ) → w ≡ reads_of first tokens t.readers t.frame P.table (around_task P S t)
    → t ≡ task_at P k S → first ≡ P.first → tokens ≡ P.token (partition_of P k) → w ≡ reads_at P k S
reads_in P k S first tokens e g f d =
    e ∙ (λ o. reads_of (f o) (d o) (g o).readers (g o).frame P.table (around_task P S (g o))) ∙ sym (reads_at_lem P k S)

-- ---- the call
module _ (t : Call) (m : Memory) {n : ℕ} (e : n ≡ refusal_of t (sizes_of m)) where
  pub cost_bad : (n ≡ 0 → ⊥) → cost_of t m ≡ no_reads
  unfolding cost_of
  cost_bad f = go n e f
    where
      go : (k : ℕ) → k ≡ refusal_of t (sizes_of m) → (k ≡ 0 → ⊥) → cost_of t m ≡ no_reads
      go zero e f = absurd (f refl)
      go (suc k) e f = rw (← e, cost_of)

  pub cost_good : n ≡ 0 → cost_of t m ≡ reads_from (blocks_of t.tile.width t.tile.height) (pictured_of t) 0 (begun_of t m)
  unfolding cost_of
  cost_good f = let z : refusal_of t (sizes_of m) ≡ 0 = sym e ∙ f in rw (z, cost_of)

-- as the code finds it: the frame and the table made of the header, the memory filled
module _ (t : Call) (m : Memory) (e : refusal_of t (sizes_of m) ≡ 0) {f : Frame} {x : List ℕ} {b : Memory} (g : Some f ≡ framed_of t.header) (y : Some x ≡ table_of t.header) (h : b ≡ blank_of m) where
  pub cost_found : {w : SymbolCounts} → w ≡ reads_from (blocks_of t.tile.width t.tile.height) (cut_out t.form t.bytes t.tile f x) 0 (start_of t.bytes t.tile b) → w ≡ cost_of t m
  cost_found q =
      q
      ∙ (λ i. reads_from (blocks_of t.tile.width t.tile.height) (picture_found t m e g y h i) 0 (start_of t.bytes t.tile (h i)))
      ∙ sym (cost_good t m (sym e) refl)

-- ---- how many they can be
-- so many macroblocks were read from number k on, and these are the symbols
pub record Over (n k : ℕ) (answer : Decoded) (reads : SymbolCounts) : Type 0 where
  pub macroblocks : ℕ
  pub upto : macroblocks ≤ n
  pub asked : asked_of answer ≡ k + macroblocks
  pub most : AtMost macroblocks reads

module _ (P : Picture) (s : Shared P) (a : Bytes P.first) (b : (q : ℕ) → q < P.count → Bytes (P.token q)) where
  reads_at_most : (k : ℕ) (S : State) → Live P S → k < P.wide * P.high → AtMost 1 (reads_at P k S)
  unfolding reads_at
  reads_at_most k S l h =
      reads_most P.first (P.token (partition_of P k)) (readers_at S (partition_of P k)) P.frame P.table (around_at P S (column_of P k))
      (ready_at P S k s l h (column_of P k) (partition_of P k) (column_below P k h) (partition_below P k h s.least) refl refl) s.bytes

  pub reads_over : (n k : ℕ) (S : State) → Live P S → k + n ≤ P.wide * P.high → Over n k (run_of n P k S).answer (reads_from n P k S)
  reads_over zero k S l h = rw (run_none P k S, reads_none P k S) (record { macroblocks = 0; upto = omega arith; asked = omega arith; most = record { first = omega arith; tokens = omega arith } })
  reads_over (suc n) k S l h = go (λ T i. reads_over n (k + 1) T i (omega arith)) (step_at P k S) refl
    where
      here : AtMost 1 (reads_at P k S)
      here = reads_at_most k S l (omega arith)

      go : ((T : State) → Live P T → Over n (k + 1) (run_of n P (k + 1) T).answer (reads_from n P (k + 1) T)) → (x : Step) → step_at P k S ≡ x → Over (suc n) k (run_of (suc n) P k S).answer (reads_from (suc n) P k S)
      go ih (finished x) e =
          let z = ends_at P S k s l (omega arith) a (b (partition_of P k) (partition_below P k (omega arith) s.least)) x e in
          let i = ih (next_of P k S x) (live_next P S k s l (omega arith) x z) in
          rw (run_finished n P k S x e, reads_finished n P k S x e)
          (record {
            macroblocks = suc i.macroblocks;
            upto = omega (arith, i.upto);
            asked = omega (arith, i.asked);
            most = record { first = omega (arith, here.first, i.most.first); tokens = omega (arith, here.tokens, i.most.tokens) };
          })
      go ih no_modes e = rw (run_no_modes n P k S e, reads_no_modes n P k S e) (record { macroblocks = 1; upto = omega arith; asked = omega arith; most = here })
      go ih no_tokens e = rw (run_no_tokens n P k S e, reads_no_tokens n P k S e) (record { macroblocks = 1; upto = omega arith; asked = omega arith; most = here })

all_over : {n : ℕ} {answer : Decoded} {reads : SymbolCounts} → Over n 0 answer reads → AtMost (asked_of answer) reads
all_over {reads} o = subst (λ (j : ℕ). AtMost j reads) (omega (arith, o.asked)) o.most

-- of the call, whatever it answers
module _ (t : Call) (m : Memory) (y : Bytes t.bytes) where
  pub cost_most : AtMost (asked_of (picture_of t m).answer) (cost_of t m)
  cost_most = go (refusal_of t (sizes_of m)) refl
    where
      go : (n : ℕ) → n ≡ refusal_of t (sizes_of m) → AtMost (asked_of (picture_of t m).answer) (cost_of t m)
      go zero e =
          let f = sym e in
          let o = reads_over (pictured_of t) (shared_start t m f) (part_bytes t.bytes t.tile.first y) (λ q h. part_bytes t.bytes (span_at_of t.tile q) y)
          (blocks_of t.tile.width t.tile.height) 0 (begun_of t m) (live_start t m f y) (omega arith) in
          rw (picture_good t m e refl, cost_good t m e refl) (all_over o)
      go (suc n) e = rw (cost_bad t m e (λ z. omega arith), ← picture_bad t m e (λ z. omega arith)) (record { first = omega arith; tokens = omega arith })
