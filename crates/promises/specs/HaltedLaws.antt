-- The laws of the state that a picture stops in: it is the one reached last; and two pictures that share all but some token partitions stop
-- together, or both come as far as they agree.
use Rattle.std.specs.Prelude.{◌+◌, ◌-◌, ◌≤◌, ◌<◌, ◌≡◌, ◌⊎◌}
use Rattle.numbers.specs.Words.{ℕ, suc, arith, refl, sym, ◌∙◌, ap, inl, inr, lt_or, Ok, Err}
use Rattle.choices.specs.Choices.{Decoded}
use Rattle.macroblock.specs.Macroblock.{Step, no_modes, no_tokens}
use Rattle.choices.specs.declared.answer.Stop.TheVariants as Stop
use Rattle.picture.specs.Picture.{Picture, State, Ended, partition_of, step_at, next_of}
use Rattle.picture.specs.Halt.{Halted, halt_of}
use Rattle.picture.specs.HaltLaws.{halt_none, halt_finished, halt_no_modes, halt_no_tokens}
use Rattle.promises.specs.Reached.{Reached, start, after, Ending, whole, modes_out, tokens_out}
use Rattle.promises.specs.ReachedLaws.{missing_modes, missing_tokens, ending, reached_before}
use Rattle.promises.specs.TwoRuns.{Twins, Same, step_same, other}

-- ---- it passes through every state that is reached
pub halt_from : {P : Picture} {S₀ S : State} {k : ℕ} → Reached P S₀ k S → (n : ℕ) → halt_of (k + n) P 0 S₀ ≡ halt_of n P k S
halt_from {P} {S₀} start n = ap (λ (i : ℕ). halt_of i P 0 S₀) {x = 0 + n} {y = n} (omega arith)
halt_from {P} {S₀} (after {k} {S} {x} r e) n =
    ap (λ (i : ℕ). halt_of i P 0 S₀) {x = suc k + n} {y = k + suc n} (omega arith)
    ∙ halt_from r (suc n) ∙ halt_finished n P k S x e ∙ ap (λ (i : ℕ). halt_of n P i (next_of P k S x)) {x = k + 1} {y = suc k} (omega arith)

module _ (P : Picture) (S₀ : State) (M : ℕ) where
  pub halts_whole : {S : State} → Reached P S₀ M S → halt_of M P 0 S₀ ≡ record { answer = Ok M; state = S }
  halts_whole {S} r = ap (λ (i : ℕ). halt_of i P 0 S₀) {x = M} {y = M + 0} (omega arith) ∙ halt_from r 0 ∙ halt_none P M S

  module _ {k : ℕ} {S : State} (h : k < M) (r : Reached P S₀ k S) where
    one_more : halt_of M P 0 S₀ ≡ halt_of (suc (M - suc k)) P k S
    one_more = ap (λ (i : ℕ). halt_of i P 0 S₀) {x = M} {y = k + suc (M - suc k)} (omega arith) ∙ halt_from r (suc (M - suc k))

    pub halts_modes : step_at P k S ≡ no_modes → halt_of M P 0 S₀ ≡ record { answer = Err (Stop.NoModes k); state = S }
    halts_modes e = one_more ∙ halt_no_modes (M - suc k) P k S e

    pub halts_tokens : step_at P k S ≡ no_tokens → halt_of M P 0 S₀ ≡ record { answer = Err (Stop.NoTokens k); state = S }
    halts_tokens e = one_more ∙ halt_no_tokens (M - suc k) P k S e

-- ---- macroblocks below b read only partitions in which both agree
-- both stop with one answer, in the same state but for the readers of the other partitions
pub record Together (U : ℕ → Type 0) (H K : Halted) : Type 0 where
  pub answer : H.answer ≡ K.answer
  pub same : Same U H.state K.state

module _ {U : ℕ → Type 0} {P Q : Picture} (t : Twins U P Q) (b : ℕ) (used : (k : ℕ) → k < b → U (partition_of P k)) (inside : (k : ℕ) → k < b → partition_of P k < P.count) {S₀ T₀ : State} (s₀ : Same U S₀ T₀) where
  -- so both stop together below b, or both come to b
  pub data Halts (M : ℕ) : Type 0 where
    together : Together U (halt_of M P 0 S₀) (halt_of M Q 0 T₀) → Halts M
    past : {S T : State} → b < M → Reached P S₀ b S → Reached Q T₀ b T → Halts M

  module _ (M : ℕ) where
    further : {k : ℕ} {S : State} → b ≤ k → b < M → Reached P S₀ k S → Halts M
    further h l r =
        let a = reached_before b h r in
        let c = other t b used inside s₀ (omega arith) a.reached in
        past l a.reached c.reached

    both_at_lem : {H K : Halted} {A : Decoded} {S T : State} → H ≡ record { answer = A; state = S } → K ≡ record { answer = A; state = T } → Same U S T → Together U H K
    both_at_lem e f s = rw (e, f) (record { answer = refl; same = s })

    stopped : (k : ℕ) (S : State) (A : Decoded) (s : Step) → k < M → Reached P S₀ k S → step_at P k S ≡ s
        → ((R : Picture) (X Y : State) → Reached R X k Y → step_at R k Y ≡ s → halt_of M R 0 X ≡ record { answer = A; state = Y }) → Halts M
    stopped k S A s h r e f = go (lt_or k b)
      where
        go : (k < b) ⊎ (b ≤ k) → Halts M
        go (inl l) =
            let c = other t b used inside s₀ (omega arith) r in
            together (both_at_lem (f P S₀ S r e) (f Q T₀ c.state c.reached (sym (step_same t c.same k (used k l)) ∙ e)) c.same)
        go (inr l) = further l (omega arith) r

    by_ending : {E : Ended} → Ending P S₀ M E → Halts M
    by_ending (whole {S} r) = go (lt_or b M)
      where
        go : (b < M) ⊎ (M ≤ b) → Halts M
        go (inl l) = further (omega arith) l r
        go (inr l) = let c = other t b used inside s₀ l r in together (both_at_lem (halts_whole P S₀ M r) (halts_whole Q T₀ M c.reached) c.same)
    by_ending (modes_out {k} {S} h r g) = stopped k S (Err (Stop.NoModes k)) no_modes h r (missing_modes P k S g) (λ R X Y i e. halts_modes R X M h i e)
    by_ending (tokens_out {k} {S} {m} {r} h i g d) = stopped k S (Err (Stop.NoTokens k)) no_tokens h i (missing_tokens P k S m r g d) (λ R X Y i e. halts_tokens R X M h i e)

    pub halts : Halts M
    halts = by_ending (ending P S₀ M)

    -- where no macroblock reads another partition, both stop together
    pub all_together : M ≤ b → Together U (halt_of M P 0 S₀) (halt_of M Q 0 T₀)
    all_together h = go halts
      where
        go : Halts M → Together U (halt_of M P 0 S₀) (halt_of M Q 0 T₀)
        go (together e) = e
        go (past l r q) = absurd (omega arith)
