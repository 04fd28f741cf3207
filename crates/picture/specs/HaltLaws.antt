-- The laws of the picture call with its state: one turn of its recursion; its answer and memory are the picture call's; the call.
use Rattle.std.specs.Prelude.{◌+◌, ◌*◌, ◌≤◌, ◌<◌, ◌≡◌}
use Rattle.numbers.specs.Words.{Some, List, ℕ, zero, suc, arith, refl, sym, ◌∙◌, ap, Ok, Err}
use Rattle.reader.specs.ReadingLaws.{Bytes}
use Rattle.coefficients.specs.Block.{table_of}
use Rattle.header.specs.declared.frame.Frame.{Frame}
use Rattle.header.specs.Frame.{framed_of}
use Rattle.modes.specs.Modes.{empty_context}
use Rattle.macroblock.specs.Macroblock.{Finished, Step, finished, no_modes, no_tokens, no_reads}
use Rattle.lent.specs.Memory.{Memory, sizes_of, blank_of}
use Rattle.tile.specs.Tile.{span_at_of, blocks_of, readers_of}
use Rattle.tile.specs.PartitionsLaws.{part_bytes}
use Rattle.choices.specs.declared.answer.Refusal.{Refusal}
use Rattle.choices.specs.declared.answer.Stop.TheVariants as Stop
use Rattle.choices.specs.Choices.{Call, refusal_of, named, checked_of, values_of}
use Rattle.choices.specs.ChoicesLaws.{check_fails, check_named}
use Rattle.picture.specs.Picture.{Picture, State, Ended, cut_out, pictured_of, start_of, begun_of, partition_of, step_at, next_of, run_of, picture_of, cost_of, Shared, Live}
use Rattle.picture.specs.PictureLaws.{live_next, ends_at, partition_below, run_none, run_finished, run_no_modes, run_no_tokens}
use Rattle.picture.specs.CallLaws.{picture_bad, picture_good, picture_found, shared_start, live_start}
use Rattle.picture.specs.CountsLaws.{cost_bad}
use Rattle.picture.specs.declared.rows.PictureStop.{PictureStop}
use Rattle.picture.specs.Halt.{Halted, halted_at, halt_of, halted_of}

-- ---- one turn
pub halt_none : (P : Picture) (k : ℕ) (S : State) → halt_of 0 P k S ≡ record { answer = Ok k; state = S }
unfolding halt_of
halt_none P k S = refl

module _ (n : ℕ) (P : Picture) (k : ℕ) (S : State) where
  pub halt_finished : (x : Finished) → step_at P k S ≡ finished x → halt_of (suc n) P k S ≡ halt_of n P (k + 1) (next_of P k S x)
  unfolding halt_of
  halt_finished x e = rw (e, halt_of)

  pub halt_no_modes : step_at P k S ≡ no_modes → halt_of (suc n) P k S ≡ record { answer = Err (Stop.NoModes k); state = S }
  unfolding halt_of
  halt_no_modes e = rw (e, halt_of)

  pub halt_no_tokens : step_at P k S ≡ no_tokens → halt_of (suc n) P k S ≡ record { answer = Err (Stop.NoTokens k); state = S }
  unfolding halt_of
  halt_no_tokens e = rw (e, halt_of)

-- ---- the same without the state
abbrev pub ended_in : Halted → Ended
ended_in h = record { answer = h.answer; mem = h.state.mem }

pub halt_run : (n : ℕ) (P : Picture) (k : ℕ) (S : State) → ended_in (halt_of n P k S) ≡ run_of n P k S
halt_run zero P k S = ap ended_in (halt_none P k S) ∙ sym (run_none P k S)
halt_run (suc n) P k S = go (λ T. halt_run n P (k + 1) T) (step_at P k S) refl
  where
    go : ((T : State) → ended_in (halt_of n P (k + 1) T) ≡ run_of n P (k + 1) T) → (t : Step) → step_at P k S ≡ t → ended_in (halt_of (suc n) P k S) ≡ run_of (suc n) P k S
    go ih (finished x) e = ap ended_in (halt_finished n P k S x e) ∙ ih (next_of P k S x) ∙ sym (run_finished n P k S x e)
    go ih no_modes e = ap ended_in (halt_no_modes n P k S e) ∙ sym (run_no_modes n P k S e)
    go ih no_tokens e = ap ended_in (halt_no_tokens n P k S e) ∙ sym (run_no_tokens n P k S e)

-- ---- the call
module _ (t : Call) (m : Memory) {n : ℕ} (e : n ≡ refusal_of t (sizes_of m)) where
  pub halted_bad : (n ≡ 0 → ⊥) → record { answer = Err (Stop.Refused (named n)); state = start_of t.bytes t.tile m } ≡ halted_of t m
  unfolding halted_of
  halted_bad f = go n e f
    where
      go : (k : ℕ) → k ≡ refusal_of t (sizes_of m) → (k ≡ 0 → ⊥) → record { answer = Err (Stop.Refused (named k)); state = start_of t.bytes t.tile m } ≡ halted_of t m
      go zero e f = absurd (f refl)
      go (suc k) e f = rw (← e, halted_of)

  pub halted_good : n ≡ 0 → halted_of t m ≡ halt_of (blocks_of t.tile.width t.tile.height) (pictured_of t) 0 (begun_of t m)
  unfolding halted_of
  halted_good f = let z : refusal_of t (sizes_of m) ≡ 0 = sym e ∙ f in rw (z, halted_of)

-- THE LAW: its answer and its memory are the picture call's
pub halted_picture : (t : Call) (m : Memory) → ended_in (halted_of t m) ≡ picture_of t m
halted_picture t m = go (refusal_of t (sizes_of m)) refl
  where
    go : (n : ℕ) → n ≡ refusal_of t (sizes_of m) → ended_in (halted_of t m) ≡ picture_of t m
    go zero e = ap ended_in (halted_good t m e refl) ∙ halt_run (blocks_of t.tile.width t.tile.height) (pictured_of t) 0 (begun_of t m) ∙ sym (picture_good t m e refl)
    go (suc n) e = ap ended_in (sym (halted_bad t m e (λ z. omega arith))) ∙ picture_bad t m e (λ z. omega arith)

-- as the code finds it: the frame and the table made of the header, the memory filled
module _ (t : Call) (m : Memory) (e : refusal_of t (sizes_of m) ≡ 0) {f : Frame} {x : List ℕ} {b : Memory} (g : Some f ≡ framed_of t.header) (y : Some x ≡ table_of t.header) (h : b ≡ blank_of m) where
  pub halted_found : {H : Halted} → H ≡ halt_of (blocks_of t.tile.width t.tile.height) (cut_out t.form t.bytes t.tile f x) 0 (start_of t.bytes t.tile b) → H ≡ halted_of t m
  halted_found q =
      q
      ∙ (λ i. halt_of (blocks_of t.tile.width t.tile.height) (picture_found t m e g y h i) 0 (start_of t.bytes t.tile (h i)))
      ∙ sym (halted_good t m (sym e) refl)

-- an argument refused, as the code finds it
pub halted_refused : (t : Call) (m : Memory) {r : Refusal} → Err r ≡ checked_of t (sizes_of m) → {q : PictureStop} → q ≡ record { answer = Err (Stop.Refused r); reads = no_reads; reader = t.tile.reader; readers = readers_of t.bytes t.tile; left = empty_context }
    → (halted_at q.answer q.reader q.readers q.left m ≡ halted_of t m) × (q.reads ≡ cost_of t m)
halted_refused t m {r} e {q} f =
    let z = sizes_of m in
    let b = check_fails t z e in (
      ap (λ (q : PictureStop). halted_at q.answer q.reader q.readers q.left m) f ∙ ap (λ (r : Refusal). record { answer = Err (Stop.Refused r); state = start_of t.bytes t.tile m }) (check_named t z e) ∙ halted_bad t m refl b,
      ap (λ (q : PictureStop). q.reads) f ∙ sym (cost_bad t m refl b),
    )

-- ---- the state can be gone on from: what every macroblock finds, and no more than n of them are finished
pub record Alive (P : Picture) (n : ℕ) (h : Halted) : Type 0 where
  pub live : Live P h.state
  pub upto : values_of h.answer ≤ n

module _ (P : Picture) (s : Shared P) (a : Bytes P.first) (b : (q : ℕ) → q < P.count → Bytes (P.token q)) where
  pub halt_alive : (n k : ℕ) (S : State) → Live P S → k + n ≤ P.wide * P.high → Alive P (k + n) (halt_of n P k S)
  halt_alive zero k S l h = rw (halt_none P k S) (record { live = l; upto = omega arith })
  halt_alive (suc n) k S l h = go (λ x i. halt_alive n (k + 1) (next_of P k S x) i (omega arith)) (step_at P k S) refl
    where
      go : ((x : Finished) → Live P (next_of P k S x) → Alive P (k + 1 + n) (halt_of n P (k + 1) (next_of P k S x))) → (t : Step) → step_at P k S ≡ t → Alive P (k + suc n) (halt_of (suc n) P k S)
      go ih (finished x) e =
          let z = ends_at P S k s l (omega arith) a (b (partition_of P k) (partition_below P k (omega arith) s.least)) x e in
          let i = ih x (live_next P S k s l (omega arith) x z) in
          rw (halt_finished n P k S x e) (record { live = i.live; upto = omega (arith, i.upto) })
      go ih no_modes e = rw (halt_no_modes n P k S e) (record { live = l; upto = omega arith })
      go ih no_tokens e = rw (halt_no_tokens n P k S e) (record { live = l; upto = omega arith })

-- of the call, its arguments being good
pub halted_alive : (t : Call) (m : Memory) → refusal_of t (sizes_of m) ≡ 0 → Bytes t.bytes → Alive (pictured_of t) (blocks_of t.tile.width t.tile.height) (halted_of t m)
halted_alive t m e y =
    let n = blocks_of t.tile.width t.tile.height in
    let a = halt_alive (pictured_of t) (shared_start t m e) (part_bytes t.bytes t.tile.first y) (λ q h. part_bytes t.bytes (span_at_of t.tile q) y) n 0 (begun_of t m) (live_start t m e y) (omega arith) in
    rw (halted_good t m (sym e) refl) (record { live = a.live; upto = omega (arith, a.upto) })
