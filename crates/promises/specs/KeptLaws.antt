-- What macroblocks leave alone: one macroblock, and every one of a run.
use Rattle.std.specs.Prelude.{◌+◌, ◌-◌, ◌*◌, ◌/◌, ◌≤◌, ◌<◌, ◌≡◌}
use Rattle.numbers.specs.Words.{ℕ, zero, suc, arith, refl, sym, ◌∙◌, subst, List, Off}
use Rattle.reader.specs.ReadingLaws.{Bytes}
use Rattle.modes.specs.Modes.{kinds_of}
use Rattle.planes.specs.Places.{Outside}
use Rattle.macroblock.specs.Macroblock.{Finished, Step, finished, no_modes, no_tokens}
use Rattle.macroblock.specs.StepLaws.{Kept, Elsewhere, step_outside}
use Rattle.lent.specs.Memory.{Memory, mode_width, strength_width, mode_record, strength_record}
use Rattle.tile.specs.Tile.{span_at_of}
use Rattle.tile.specs.PartitionsLaws.{part_bytes}
use Rattle.lent.specs.RecordsLaws.{record_set_off}
use Rattle.choices.specs.Choices.{Call}
use Rattle.picture.specs.CallLaws.{shared_start, live_start}
use Rattle.picture.specs.Picture.{Picture, State, pictured_of, begun_of, column_of, row_of, partition_of, planes_in, place_of, readers_at, around_at, step_at, next_of, run_of, Shared, Live}
use Rattle.picture.specs.PictureLaws.{step_at_lem, column_below, partition_below, laid_at, ready_at, ends_at, live_next, run_none, run_finished, run_no_modes, run_no_tokens}
use Rattle.promises.specs.Refusals.{Fine}
use Rattle.promises.specs.Reached.{Reached, start, after}
use Rattle.promises.specs.ReachedLaws.{rest_of}
use Rattle.promises.specs.Places.{Plane, luma, blue, red, plane_of, plane_side, sample_of, mode_byte, strength_byte}

-- ---- a picture and a state that can be run: what the checks say, and bytes that are bytes
pub record Sound (P : Picture) (S₀ : State) : Type 0 where
  pub shared : Shared P
  pub first : Bytes P.first
  pub tokens : (q : ℕ) → q < P.count → Bytes (P.token q)
  pub live : Live P S₀

pub sound : (t : Call) (m : Memory) → Bytes t.bytes → Fine t m → Sound (pictured_of t) (begun_of t m)
sound t m b e = record {
  shared = shared_start t m e;
  first = part_bytes t.bytes t.tile.first b;
  tokens = λ q l. part_bytes t.bytes (span_at_of t.tile q) b;
  live = live_start t m e b;
}

-- ---- one macroblock
module _ {P : Picture} {S₀ : State} (z : Sound P S₀) where
  module _ (S : State) (k : ℕ) (x : Finished) (l : Live P S) (h : k < P.wide * P.high) (e : step_at P k S ≡ finished x) where
    q_below : partition_of P k < P.count
    q_below = partition_below P k h z.shared.least

    pub live_after : Live P (next_of P k S x)
    live_after = live_next P S k z.shared l h x (ends_at P S k z.shared l h z.first (z.tokens (partition_of P k) q_below) x e)

    elsewhere : Elsewhere (place_of P k) (planes_in S.mem) x.planes
    elsewhere =
        step_outside P.first (P.token (partition_of P k)) (readers_at S (partition_of P k)) P.frame P.table (around_at P S (column_of P k)) (place_of P k) (planes_in S.mem)
        (ready_at P S k z.shared l h (column_of P k) (partition_of P k) (column_below P k h) q_below refl refl) z.first (z.tokens (partition_of P k) q_below) z.shared.bytes (sym (step_at_lem P k S) ∙ e) (laid_at P S k z.shared l h)

    half : {w n : ℕ} {p q : List ℕ} {a b : ℕ} → w ≡ n → Kept w a b 8 p q → Kept n a b 8 p q
    half {p} {q} {a} {b} f k = subst (λ (i : ℕ). Kept i a b 8 p q) f k

    -- outside its square a plane stays
    pub plane_kept : (a : Plane) → Kept (P.wide * plane_side a) (column_of P k * plane_side a) (row_of P k * plane_side a) (plane_side a) (plane_of a S.mem) (plane_of a (next_of P k S x).mem)
    plane_kept luma = elsewhere.y
    plane_kept blue = half {w = P.wide * 16 / 2} {n = P.wide * 8} (omega arith) elsewhere.u
    plane_kept red = half {w = P.wide * 16 / 2} {n = P.wide * 8} (omega arith) elsewhere.v

-- macroblock k leaves what g reads of memory
abbrev pub Keeps : Picture → (Memory → ℕ) → ℕ → Type 0
Keeps P g k = (S : State) (x : Finished) → Live P S → step_at P k S ≡ finished x → g (next_of P k S x).mem ≡ g S.mem

module _ {P : Picture} {S₀ : State} (z : Sound P S₀) (k : ℕ) (h : k < P.wide * P.high) where
  pub keeps_sample : (a : Plane) (c r : ℕ) → c < P.wide * plane_side a → Outside (column_of P k * plane_side a) (row_of P k * plane_side a) (plane_side a) c r → Keeps P (sample_of P.wide a c r) k
  keeps_sample a c r l o = λ S x i e. (plane_kept z S k x i h e a).off c r l o

  pub keeps_mode : (i : ℕ) → Off (k * mode_width) mode_width i → Keeps P (mode_byte i) k
  keeps_mode i o = λ S x l e. record_set_off mode_width S.mem.modes k (mode_record (kinds_of x.modes) x.modes.modes) i o

  pub keeps_strength : (i : ℕ) → Off (k * strength_width) strength_width i → Keeps P (strength_byte i) k
  keeps_strength i o = λ S x l e. record_set_off strength_width S.mem.strengths k (strength_record x.strength (kinds_of x.modes)) i o

-- ---- all of a run
module _ {P : Picture} {S₀ : State} (z : Sound P S₀) where
  pub live_reached : {k : ℕ} {S : State} → k ≤ P.wide * P.high → Reached P S₀ k S → Live P S
  live_reached h start = z.live
  live_reached h (after {k} {S} {x} r e) = let l : k < P.wide * P.high = omega arith in live_after z S k x (live_reached (omega arith) r) l e

  -- what none of the macroblocks before k touches is as it was at the start
  pub reached_keeps : (g : Memory → ℕ) {k : ℕ} {S : State} → k ≤ P.wide * P.high → Reached P S₀ k S → ((j : ℕ) → j < k → Keeps P g j) → g S.mem ≡ g S₀.mem
  reached_keeps g h start f = refl
  reached_keeps g h (after {k} {S} {x} r e) f = f k (omega arith) S x (live_reached (omega arith) r) e ∙ reached_keeps g (omega arith) r (λ j l. f j (omega arith))

  -- what none of the macroblocks from k on touches stays to the end
  run_keeps : (g : Memory → ℕ) (n k : ℕ) (S : State) → Live P S → k + n ≡ P.wide * P.high → ((j : ℕ) → k ≤ j → j < P.wide * P.high → Keeps P g j) → g (run_of n P k S).mem ≡ g S.mem
  run_keeps g zero k S l h f = rw (run_none P k S)
  run_keeps g (suc n) k S l h f = go (λ T i. run_keeps g n (k + 1) T i (omega arith) (λ j a b. f j (omega arith) b)) (step_at P k S) refl
    where
      go : ((T : State) → Live P T → g (run_of n P (k + 1) T).mem ≡ g T.mem) → (s : Step) → step_at P k S ≡ s → g (run_of (suc n) P k S).mem ≡ g S.mem
      go ih (finished x) e = rw (run_finished n P k S x e) (ih (next_of P k S x) (live_after z S k x l (omega arith) e) ∙ f k (omega arith) (omega arith) S x l e)
      go ih no_modes e = rw (run_no_modes n P k S e)
      go ih no_tokens e = rw (run_no_tokens n P k S e)

  pub rest_keeps : (g : Memory → ℕ) {k : ℕ} {S : State} → k ≤ P.wide * P.high → Reached P S₀ k S → ((j : ℕ) → k ≤ j → j < P.wide * P.high → Keeps P g j)
      → g (run_of (P.wide * P.high) P 0 S₀).mem ≡ g S.mem
  rest_keeps g {k} {S} h r f = rw (rest_of (P.wide * P.high) h r) (run_keeps g (P.wide * P.high - k) k S (live_reached h r) (omega arith) f)
