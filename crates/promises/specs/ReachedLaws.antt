-- The laws of a picture's run: it passes through every state that is reached, and it ends in one of three ways.
use Rattle.std.specs.Prelude.{◌+◌, ◌-◌, ◌≤◌, ◌<◌, ◌≡◌, ◌⊎◌}
use Rattle.numbers.specs.Words.{ℕ, zero, suc, add-one, arith, refl, sym, ◌∙◌, ap, subst, inl, inr, lt_or, Ok, Err}
use Rattle.reader.specs.declared.boolean.Reader.{Reader}
use Rattle.reader.specs.Reading.{given, missing}
use Rattle.modes.specs.Modes.{Macroblock}
use Rattle.macroblock.specs.Macroblock.{Finished, Step, finished, no_modes, no_tokens}
use Rattle.macroblock.specs.StepLaws.{NoTokens, step_no_modes, step_no_tokens, step_refused_modes, step_refused_tokens}
use Rattle.choices.specs.declared.answer.Stop.TheVariants as Stop
use Rattle.choices.specs.Choices.{values_of}
use Rattle.picture.specs.Picture.{Picture, State, Ended, column_of, partition_of, planes_in, place_of, readers_at, around_at, step_at, next_of, run_of}
use Rattle.picture.specs.PictureLaws.{step_at_lem, run_none, run_finished, run_no_modes, run_no_tokens}
use Rattle.promises.specs.Reached.{Reached, start, after, modes_asked, tokens_asked, Ending, whole, modes_out, tokens_out}

-- ---- a macroblock's answer, in words of the two grammars
module _ (P : Picture) (k : ℕ) (S : State) where
  pub modes_missing : step_at P k S ≡ no_modes → modes_asked P k S ≡ missing
  modes_missing e =
      step_refused_modes P.first (P.token (partition_of P k)) (readers_at S (partition_of P k)) P.frame P.table (around_at P S (column_of P k)) (place_of P k) (planes_in S.mem) (sym (step_at_lem P k S) ∙ e)

  pub missing_modes : modes_asked P k S ≡ missing → step_at P k S ≡ no_modes
  missing_modes e =
      step_at_lem P k S
      ∙ step_no_modes P.first (P.token (partition_of P k)) (readers_at S (partition_of P k)) P.frame P.table (around_at P S (column_of P k)) (place_of P k) (planes_in S.mem) e

  -- its modes are given, and its tokens run out
  pub record Short : Type 0 where
    pub modes : Macroblock
    pub reader : Reader
    pub gave : modes_asked P k S ≡ given modes reader
    pub out : tokens_asked P k S modes ≡ missing

  pub tokens_missing : step_at P k S ≡ no_tokens → Short
  tokens_missing e =
      let n = step_refused_tokens P.first (P.token (partition_of P k)) (readers_at S (partition_of P k)) P.frame P.table (around_at P S (column_of P k)) (place_of P k) (planes_in S.mem) (sym (step_at_lem P k S) ∙ e) in
      record { modes = n.modes; reader = n.first; gave = n.gave; out = n.out }

  pub missing_tokens : (m : Macroblock) (r : Reader) → modes_asked P k S ≡ given m r → tokens_asked P k S m ≡ missing → step_at P k S ≡ no_tokens
  missing_tokens m r e f =
      step_at_lem P k S
      ∙ step_no_tokens P.first (P.token (partition_of P k)) (readers_at S (partition_of P k)) P.frame P.table (around_at P S (column_of P k)) (place_of P k) (planes_in S.mem) m r e f

-- ---- the run passes through every state that is reached
pub run_from : {P : Picture} {S₀ S : State} {k : ℕ} → Reached P S₀ k S → (n : ℕ) → run_of (k + n) P 0 S₀ ≡ run_of n P k S
run_from {P} {S₀} start n = ap (λ (i : ℕ). run_of i P 0 S₀) {x = 0 + n} {y = n} (omega arith)
run_from {P} {S₀} (after {k} {S} {x} r e) n =
    ap (λ (i : ℕ). run_of i P 0 S₀) {x = suc k + n} {y = k + suc n} (omega arith)
    ∙ run_from r (suc n) ∙ run_finished n P k S x e ∙ ap (λ (i : ℕ). run_of n P i (next_of P k S x)) {x = k + 1} {y = suc k} (omega arith)

-- a picture of M macroblocks from macroblock k on
pub rest_of : {P : Picture} {S₀ S : State} {k : ℕ} (M : ℕ) → k ≤ M → Reached P S₀ k S → run_of M P 0 S₀ ≡ run_of (M - k) P k S
rest_of {P} {S₀} {S} {k} M h r = ap (λ (i : ℕ). run_of i P 0 S₀) {x = M} {y = k + (M - k)} (omega arith) ∙ run_from r (M - k)

-- ---- it ends in one of three ways
module _ (P : Picture) (S₀ : State) (M : ℕ) where
  ends : (n k : ℕ) (S : State) → k + n ≡ M → Reached P S₀ k S → Ending P S₀ M (run_of n P k S)
  ends zero k S h r =
      let e : k ≡ M = omega arith in
      rw (run_none P k S, e) (whole (subst (λ (i : ℕ). Reached P S₀ i S) e r))
  ends (suc n) k S h r = go (λ x T. ends n (k + 1) T (omega arith)) (step_at P k S) refl
    where
      go : ((x : Finished) (T : State) → Reached P S₀ (k + 1) T → Ending P S₀ M (run_of n P (k + 1) T)) → (s : Step) → step_at P k S ≡ s → Ending P S₀ M (run_of (suc n) P k S)
      go ih (finished x) e = rw (run_finished n P k S x e) (ih x (next_of P k S x) (rw add-one (after r e)))
      go ih no_modes e = rw (run_no_modes n P k S e) (modes_out {k = k} (omega arith) r (modes_missing P k S e))
      go ih no_tokens e = let q = tokens_missing P k S e in rw (run_no_tokens n P k S e) (tokens_out {k = k} (omega arith) r q.gave q.out)

  pub ending : Ending P S₀ M (run_of M P 0 S₀)
  ending = ends M 0 S₀ (omega arith) start

  -- and in no other: what is reached decides
  pub ends_whole : {S : State} → Reached P S₀ M S → run_of M P 0 S₀ ≡ record { answer = Ok M; mem = S.mem }
  ends_whole {S} r = rest_of M (omega arith) r ∙ ap (λ (i : ℕ). run_of i P M S) {x = M - M} {y = 0} (omega arith) ∙ run_none P M S

  module _ {k : ℕ} {S : State} (h : k < M) (r : Reached P S₀ k S) where
    one_more : run_of M P 0 S₀ ≡ run_of (suc (M - suc k)) P k S
    one_more = rest_of M (omega arith) r ∙ ap (λ (i : ℕ). run_of i P k S) {x = M - k} {y = suc (M - suc k)} (omega arith)

    pub stops_modes : step_at P k S ≡ no_modes → run_of M P 0 S₀ ≡ record { answer = Err (Stop.NoModes k); mem = S.mem }
    stops_modes e = one_more ∙ run_no_modes (M - suc k) P k S e

    pub stops_tokens : step_at P k S ≡ no_tokens → run_of M P 0 S₀ ≡ record { answer = Err (Stop.NoTokens k); mem = S.mem }
    stops_tokens e = one_more ∙ run_no_tokens (M - suc k) P k S e

-- ---- what was reached before
pub record Before (P : Picture) (S₀ : State) (k : ℕ) : Type 0 where
  pub state : State
  pub reached : Reached P S₀ k state

pub reached_before : {P : Picture} {S₀ S : State} {k : ℕ} (j : ℕ) → j ≤ k → Reached P S₀ k S → Before P S₀ j
reached_before {P} {S₀} j h start = record { state = S₀; reached = subst (λ (i : ℕ). Reached P S₀ i S₀) {x = 0} {y = j} (omega arith) start }
reached_before {P} {S₀} j h (after {k} {S} {x} r e) = go (λ l. reached_before j l r) (lt_or k j)
  where
    go : (j ≤ k → Before P S₀ j) → (k < j) ⊎ (j ≤ k) → Before P S₀ j
    go ih (inl l) = record { state = next_of P k S x; reached = subst (λ (i : ℕ). Reached P S₀ i (next_of P k S x)) {x = suc k} {y = j} (omega arith) (after r e) }
    go ih (inr l) = ih l

-- what the picture finishes is no less than what was reached, and it ends in the state that was reached last
values_least : (n : ℕ) (P : Picture) (k : ℕ) (S : State) → k ≤ values_of (run_of n P k S).answer
values_least zero P k S = rw (run_none P k S) (omega arith)
values_least (suc n) P k S = go (λ T. values_least n P (k + 1) T) (step_at P k S) refl
  where
    go : ((T : State) → k + 1 ≤ values_of (run_of n P (k + 1) T).answer) → (s : Step) → step_at P k S ≡ s → k ≤ values_of (run_of (suc n) P k S).answer
    go ih (finished x) e = rw (run_finished n P k S x e) (omega (arith, ih (next_of P k S x)))
    go ih no_modes e = rw (run_no_modes n P k S e) (omega arith)
    go ih no_tokens e = rw (run_no_tokens n P k S e) (omega arith)

pub values_from : {P : Picture} {S₀ S : State} {k : ℕ} (M : ℕ) → k ≤ M → Reached P S₀ k S → k ≤ values_of (run_of M P 0 S₀).answer
values_from {P} {S₀} {S} {k} M h r = rw (rest_of M h r) (values_least (M - k) P k S)

pub record Last (P : Picture) (S₀ : State) (M : ℕ) (E : Ended) : Type 0 where
  pub state : State
  pub upto : values_of E.answer ≤ M
  pub reached : Reached P S₀ (values_of E.answer) state
  pub mem : E.mem ≡ state.mem

pub last : {P : Picture} {S₀ : State} {M : ℕ} {E : Ended} → Ending P S₀ M E → Last P S₀ M E
last (whole {S} r) = record { state = S; upto = omega arith; reached = r; mem = refl }
last (modes_out {k} {S} h r g) = record { state = S; upto = omega arith; reached = r; mem = refl }
last (tokens_out {k} {S} h r g d) = record { state = S; upto = omega arith; reached = r; mem = refl }

-- the last macroblock that is finished: what it found, and what its step made of that
pub record Latest (P : Picture) (S₀ : State) (k : ℕ) (S : State) : Type 0 where
  pub found : State
  pub made : Finished
  pub reached : Reached P S₀ k found
  pub step : step_at P k found ≡ finished made
  pub next : S ≡ next_of P k found made

pub latest : {P : Picture} {S₀ : State} {k : ℕ} {S : State} → Reached P S₀ (suc k) S → Latest P S₀ k S
latest (after {S} {x} r e) = record { found = S; made = x; reached = r; step = e; next = refl }
