-- The proofs of what is promised of rebuilt macroblocks (Remade.antt).
use Rattle.std.specs.Prelude.{◌+◌, ◌-◌, ◌*◌, ◌/◌, ◌≤◌, ◌<◌, ◌≡◌, ◌⊎◌}
use Rattle.numbers.specs.Words.{ℕ, zero, suc, arith, refl, sym, ◌∙◌, ap, subst, true, inl, inr, lit<, lt_or, List, replicate, Ok, Err}
use Rattle.reader.specs.ReadingLaws.{Bytes}
use Rattle.modes.specs.Modes.{kinds_of}
use Rattle.macroblock.specs.Macroblock.{Finished, Step, finished, no_modes, no_tokens, strength_made, end_of}
use Rattle.macroblock.specs.RebuiltLaws.{rebuilt_from}
use Rattle.lent.specs.Memory.{mode_width, strength_width, mode_record, strength_record, Memory}
use Rattle.lent.specs.RecordsLaws.{record_set_in}
use Rattle.choices.specs.declared.answer.Stop.TheVariants as Stop
use Rattle.choices.specs.Choices.{Call, values_of, Decoded}
use Rattle.picture.specs.Picture.{Picture, State, Ended, pictured_of, begun_of, column_of, partition_of, planes_in, place_of, readers_at, around_at, next_of, Shared, Live}
use Rattle.picture.specs.PictureLaws.{live_next, room_at}
use Rattle.picture.specs.Halt.{halted_of}
use Rattle.picture.specs.HaltLaws.{halted_picture, Alive, halted_alive}
use Rattle.rescue.specs.Rescue.{rebuilt_at, Saved, rest_of, gone_on, RescueEnded, saved_of, rescue_of, saved_count_of}
use Rattle.rescue.specs.RescueLaws.{KeepsToo, at_never, rebuilt_at_lem, ends_rebuilt_at, rest_none, rest_rebuilt, rest_no_modes, rest_least, rest_keeps}
use Rattle.promises.specs.Stops.{macroblocks}
use Rattle.promises.specs.Places.{plane_side, sample_of, mode_byte, strength_byte}
use Rattle.promises.specs.KeptLaws.{Sound, sound}
use Rattle.promises.specs.Grey.{done}
use Rattle.promises.specs.GreyLaws.{other_block}
use Rattle.promises.specs.Rescue.{RescueFine, saved}
use Rattle.promises.proofs.RescueLaws.{rescue_fine_too, rescue_is, marked, too_sample, too_mode, too_strength}
use Rattle.promises.specs.Remade.{Rebuilding, begun, next, Remade, LastSaved}

-- ---- what follows the stop passes through every state that is reached
rest_from : {P : Picture} {k : ℕ} {S₀ S : State} {i : ℕ} → Rebuilding P k S₀ i S → (n : ℕ) → rest_of (i + n) P k S₀ ≡ rest_of n P (k + i) S
rest_from {P} {k} {S₀} begun n = ap (λ (j : ℕ). rest_of j P k S₀) {x = 0 + n} {y = n} (omega arith) ∙ ap (λ (j : ℕ). rest_of n P j S₀) {x = k} {y = k + 0} (omega arith)
rest_from {P} {k} {S₀} (next {i} {S} {x} r e) n =
    ap (λ (j : ℕ). rest_of j P k S₀) {x = suc i + n} {y = i + suc n} (omega arith)
    ∙ rest_from r (suc n) ∙ rest_rebuilt n P (k + i) S x e ∙ ap (λ (j : ℕ). rest_of n P j (next_of P (k + i) S x)) {x = k + i + 1} {y = k + suc i} (omega arith)

-- and ends in the last of them
record Upto (P : Picture) (k : ℕ) (S₀ : State) (E : Saved) : Type 0 where
  steps : ℕ
  state : State
  reached : Rebuilding P k S₀ steps state
  count : E.count ≡ k + steps
  mem : E.mem ≡ state.mem

upto : (P : Picture) (k : ℕ) (S₀ : State) (n i : ℕ) (S : State) → Rebuilding P k S₀ i S → Upto P k S₀ (rest_of n P (k + i) S)
upto P k S₀ zero i S r = rw (rest_none P (k + i) S) (record { steps = i; state = S; reached = r; count = refl; mem = refl })
upto P k S₀ (suc n) i S r = go (λ T. upto P k S₀ n (suc i) T) (rebuilt_at P (k + i) S) refl
  where
    go : ((T : State) → Rebuilding P k S₀ (suc i) T → Upto P k S₀ (rest_of n P (k + suc i) T)) → (t : Step) → rebuilt_at P (k + i) S ≡ t → Upto P k S₀ (rest_of (suc n) P (k + i) S)
    go ih (finished x) e =
        let f : rest_of (suc n) P (k + i) S ≡ rest_of n P (k + suc i) (next_of P (k + i) S x) =
        rest_rebuilt n P (k + i) S x e ∙ ap (λ (j : ℕ). rest_of n P j (next_of P (k + i) S x)) {x = k + i + 1} {y = k + suc i} (omega arith) in
        subst (Upto P k S₀) (sym f) (ih (next_of P (k + i) S x) (next r e))
    go ih no_modes e = rw (rest_no_modes n P (k + i) S e) (record { steps = i; state = S; reached = r; count = refl; mem = refl })
    go ih no_tokens e = absurd (at_never P (k + i) S e)

-- a step before the last
record At (P : Picture) (k : ℕ) (S₀ : State) (i : ℕ) : Type 0 where
  found : State
  made : Finished
  reached : Rebuilding P k S₀ i found
  step : rebuilt_at P (k + i) found ≡ finished made

step_at_lem : {P : Picture} {k : ℕ} {S₀ S : State} {n : ℕ} (i : ℕ) → i < n → Rebuilding P k S₀ n S → At P k S₀ i
step_at_lem i h begun = absurd (omega arith)
step_at_lem {P} {k} {S₀} i h (next {i = j} {S} {x} r e) = go (λ l. step_at_lem i l r) (lt_or i j)
  where
    go : (i < j → At P k S₀ i) → (i < j) ⊎ (j ≤ i) → At P k S₀ i
    go ih (inl l) = ih l
    go ih (inr l) = subst (At P k S₀) {x = j} {y = i} (omega arith) (record { found = S; made = x; reached = r; step = e })

live_too : {P : Picture} (s : Shared P) → Bytes P.first → {k : ℕ} {S₀ S : State} {i : ℕ} → Live P S₀ → k + i ≤ P.wide * P.high → Rebuilding P k S₀ i S → Live P S
live_too s a l h begun = l
live_too {P} s a {k} l h (next {i} {S} {x} r e) =
    let o = live_too s a l (omega arith) r in
    let b : k + i < P.wide * P.high = omega arith in
    live_next P S (k + i) s o b x (ends_rebuilt_at P S (k + i) s o b a x e)

-- flags of 0
flags_top : (P : Picture) (k : ℕ) (S : State) {x : Finished} → rebuilt_at P k S ≡ finished x → (x.top.flags ≡ replicate 9 0) × (x.left.flags ≡ replicate 9 0)
unfolding end_of
flags_top P k S {x} e =
    let f = (rebuilt_from P.first (readers_at S (partition_of P k)) P.frame (around_at P S (column_of P k)) (place_of P k) (planes_in S.mem) (sym (rebuilt_at_lem P k S) ∙ e)).is in
    (ap (λ (y : Finished). y.top.flags) f, ap (λ (y : Finished). y.left.flags) f)

counted_empty : (P : Picture) (k : ℕ) (S : State) {x : Finished} → rebuilt_at P k S ≡ finished x → x.strength ≡ strength_made P.frame x.modes true
counted_empty P k S e = (rebuilt_from P.first (readers_at S (partition_of P k)) P.frame (around_at P S (column_of P k)) (place_of P k) (planes_in S.mem) (sym (rebuilt_at_lem P k S) ∙ e)).strengths

-- ---- the call
gone_upto : (M : ℕ) (P : Picture) (a : Decoded) (S : State) → Upto P (values_of a) S (gone_on M P a S)
gone_upto M P (Ok k) S = record { steps = 0; state = S; reached = begun; count = omega arith; mem = refl }
gone_upto M P (Err (Stop.Refused n)) S = record { steps = 0; state = S; reached = begun; count = omega arith; mem = refl }
gone_upto M P (Err (Stop.NoModes k)) S = record { steps = 0; state = S; reached = begun; count = omega arith; mem = refl }
gone_upto M P (Err (Stop.NoTokens k)) S = subst (λ (j : ℕ). Upto P k S (rest_of (M - k) P j S)) {x = k + 0} {y = k} (omega arith) (upto P k S (M - k) 0 S begun)

gone_rest : (M : ℕ) (P : Picture) (a : Decoded) (S : State) → values_of a < (gone_on M P a S).count → gone_on M P a S ≡ rest_of (M - values_of a) P (values_of a) S
gone_rest M P (Ok k) S h = absurd (omega arith)
gone_rest M P (Err (Stop.Refused n)) S h = absurd (omega arith)
gone_rest M P (Err (Stop.NoModes k)) S h = absurd (omega arith)
gone_rest M P (Err (Stop.NoTokens k)) S h = refl

module _ (t : Call) (m : Memory) (marks : List ℕ) (e : RescueFine t m marks) where
  abbrev k : ℕ
  k = values_of (halted_of t m).answer

  k_is : k ≡ done t m
  k_is = ap (λ (E : Ended). values_of E.answer) (halted_picture t m)

  saved_count : saved t m marks ≡ (saved_of t m).count
  saved_count = ap (λ (E : RescueEnded). saved_count_of E.answer) (rescue_is t m marks e)

  end : Upto (pictured_of t) k (halted_of t m).state (saved_of t m)
  end = gone_upto (macroblocks t) (pictured_of t) (halted_of t m).answer (halted_of t m).state

  -- THE PROMISE
  pub last_saved : LastSaved t m marks
  last_saved = record {
    rebuilt = end.steps;
    count = saved_count ∙ end.count ∙ ap (λ (j : ℕ). j + end.steps) k_is;
    state = end.state;
    reached = subst (λ (j : ℕ). Rebuilding (pictured_of t) j (halted_of t m).state end.steps end.state) k_is end.reached;
    memory = ap (λ (E : RescueEnded). E.mem) (rescue_is t m marks e) ∙ end.mem;
  }

  module _ (b : Bytes t.bytes) where
    alive : Alive (pictured_of t) (macroblocks t) (halted_of t m)
    alive = halted_alive t m (rescue_fine_too t m marks e) b

    z : Sound (pictured_of t) (begun_of t m)
    z = sound t m b (rescue_fine_too t m marks e)

    -- the state after the last one is one that a macroblock can find
    pub live_last : Live (pictured_of t) last_saved.state
    live_last = live_too z.shared z.first alive.live (omega (arith, last_saved.count, (marked t m marks e b).most)) last_saved.reached

    module _ (i : ℕ) (h : k + i < saved t m marks) where
      at : At (pictured_of t) k (halted_of t m).state i
      at = step_at_lem i (omega (arith, saved_count, end.count)) end.reached

      inside : k + i < macroblocks t
      inside = omega (arith, (marked t m marks e b).most)

      live : Live (pictured_of t) at.found
      live = live_too z.shared z.first alive.live (omega (arith, inside)) at.reached

      live_after : Live (pictured_of t) (next_of (pictured_of t) (k + i) at.found at.made)
      live_after = live_too z.shared z.first alive.live (omega (arith, inside)) (next at.reached at.step)

      -- what no later one touches
      stays : (g : Memory → ℕ) → ((j : ℕ) → k + i < j → j < macroblocks t → KeepsToo (pictured_of t) g j) → g (rescue_of t m marks).mem ≡ g (next_of (pictured_of t) (k + i) at.found at.made).mem
      stays g f =
          let n = macroblocks t - (k + suc i) in
          let T = next_of (pictured_of t) (k + i) at.found at.made in
          ap (λ (E : RescueEnded). g E.mem) (rescue_is t m marks e)
          ∙ ap (λ (E : Saved). g E.mem) (gone_rest (macroblocks t) (pictured_of t) (halted_of t m).answer (halted_of t m).state (omega (arith, saved_count)))
          ∙ ap (λ (j : ℕ). g (rest_of j (pictured_of t) k (halted_of t m).state).mem) {x = macroblocks t - k} {y = suc i + n} (omega (arith, inside))
          ∙ ap (λ (E : Saved). g E.mem) (rest_from (next at.reached at.step) n)
          ∙ rest_keeps z.shared z.first g n (k + suc i) T live_after (omega (arith, inside))
          (λ j c d. f j (omega arith) (omega (arith, inside, (rest_least n (pictured_of t) (k + suc i) T).1)))

      made_so : Remade t m marks k i
      made_so =
          let room = room_at (pictured_of t) at.found (k + i) z.shared live inside in
          let flags = flags_top (pictured_of t) (k + i) at.found at.step in
          record {
            found = at.found;
            made = at.made;
            reached = at.reached;
            step = at.step;
            empty = counted_empty (pictured_of t) (k + i) at.found at.step;
            below = flags.0;
            beside = flags.1;
            samples = λ a c r p o. stays (sample_of (t.tile.width / 16) a c r)
                (λ j g v. too_sample z j v a c r p.across (other_block (t.tile.width / 16) (plane_side a) j c r (λ q. omega arith)));
            modes = λ j o. stays (mode_byte ((k + i) * mode_width + j)) (λ l g v. too_mode z l v ((k + i) * mode_width + j) (inl (omega arith)))
                ∙ record_set_in mode_width at.found.mem.modes (k + i) (mode_record (kinds_of at.made.modes) at.made.modes.modes) (lit< tt) room.modes j o;
            strength = λ j o. stays (strength_byte ((k + i) * strength_width + j)) (λ l g v. too_strength z l v ((k + i) * strength_width + j) (inl (omega arith)))
                ∙ record_set_in strength_width at.found.mem.strengths (k + i) (strength_record at.made.strength (kinds_of at.made.modes)) (lit< tt) room.strengths j o;
          }

    -- THE PROMISE
    pub remade : (i : ℕ) → done t m + i < saved t m marks → Remade t m marks (done t m) i
    remade i h = subst (λ (j : ℕ). Remade t m marks j i) k_is (made_so i (omega (arith, k_is)))
