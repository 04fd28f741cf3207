-- Two pictures with the same first partition: whatever their token partitions hold, as far as both come they read the same modes.
use Rattle.std.specs.Prelude.{◌*◌, ◌%◌, ◌≤◌, ◌<◌, ◌≡◌, ◌⊎◌}
use Rattle.numbers.specs.Words.{ℕ, arith, sym, ◌∙◌, ap, subst, inl, inr, ⊎_elim, eq_or}
use Rattle.modes.specs.declared.contexts.Context.{Context}
use Rattle.modes.specs.Modes.{kinds_of}
use Rattle.lent.specs.Memory.{Form, column_at, column_set, mode_set}
use Rattle.lent.specs.ColumnsLaws.{column_back, column_other}
use Rattle.macroblock.specs.Macroblock.{Finished, finished, step_of}
use Rattle.macroblock.specs.StepLaws.{SameModes, step_modes_only_first}
use Rattle.choices.specs.Choices.{beside_of}
use Rattle.picture.specs.Picture.{Picture, State, column_of, partition_of, planes_in, place_of, readers_at, around_at, step_at, next_of, Live}
use Rattle.choices.specs.ChoicesLaws.{beside_none, beside_left}
use Rattle.picture.specs.PictureLaws.{step_at_lem, column_below, partition_below, room_at, ends_at}
use Rattle.promises.specs.Reached.{Reached, start, after}
use Rattle.promises.specs.KeptLaws.{Sound, live_reached}

-- the same modes so far: in the reader of the first partition, left, above each macroblock, and in the mode records
pub record Moded (form other : Form) (wide : ℕ) (S T : State) : Type 0 where
  pub reader : S.reader ≡ T.reader
  pub left : S.left.modes ≡ T.left.modes
  pub above : (c : ℕ) → c < wide → (column_at form S.mem.columns c).modes ≡ (column_at other T.mem.columns c).modes
  pub modes : S.mem.modes ≡ T.mem.modes

beside_modes : (c : ℕ) (l r : Context) → l.modes ≡ r.modes → (beside_of c l).modes ≡ (beside_of c r).modes
beside_modes c l r e =
    ⊎_elim
    (λ (z : c ≡ 0). rw (beside_none c l z, beside_none c r z))
    (λ z. rw (← beside_left c l z, ← beside_left c r z) e)
    (eq_or c 0)

-- what a column's record holds once it is written
module _ {P : Picture} {S₀ : State} (z : Sound P S₀) (S : State) (l : Live P S) (k : ℕ) (h : k < P.wide * P.high) (x : Finished) (e : step_at P k S ≡ finished x) where
  above_here : column_at P.form (column_set P.form S.mem.columns (column_of P k) x.top) (column_of P k) ≡ x.top
  above_here =
      let g = ends_at P S k z.shared l h z.first (z.tokens (partition_of P k) (partition_below P k h z.shared.least)) x e in
      column_back P.form S.mem.columns (column_of P k) x.top (room_at P S k z.shared l h).columns g.top_sized g.top

  above_other : (c : ℕ) → c < P.wide → (c ≡ column_of P k → ⊥) → column_at P.form (column_set P.form S.mem.columns (column_of P k) x.top) c ≡ column_at P.form S.mem.columns c
  above_other c i n = column_other P.form S.mem.columns (column_of P k) x.top c n

module _ {P Q : Picture} {S₀ T₀ : State} (z : Sound P S₀) (y : Sound Q T₀) (first : P.first ≡ Q.first) (announced : P.frame.announced ≡ Q.frame.announced) (wide : P.wide ≡ Q.wide) (high : P.high ≡ Q.high) where
  column_same : (k : ℕ) → column_of P k ≡ column_of Q k
  column_same k = λ i. k % wide i

  step_modes : (k : ℕ) (S T : State) → k < P.wide * P.high → Moded P.form Q.form P.wide S T → (x w : Finished) → step_at P k S ≡ finished x → step_at Q k T ≡ finished w → SameModes x w
  step_modes k S T h d x w e f =
      let q = partition_of Q k in
      let g : step_of P.first (Q.token q) (readers_at T q) Q.frame Q.table (around_at Q T (column_of Q k)) (place_of Q k) (planes_in T.mem) ≡ step_at Q k T =
      (λ i. step_of (first i) (Q.token q) (readers_at T q) Q.frame Q.table (around_at Q T (column_of Q k)) (place_of Q k) (planes_in T.mem)) ∙ sym (step_at_lem Q k T) in
      step_modes_only_first P.first
      (P.token (partition_of P k)) (readers_at S (partition_of P k)) P.frame P.table (around_at P S (column_of P k)) (place_of P k) (planes_in S.mem)
      (Q.token q) (readers_at T q) Q.frame Q.table (around_at Q T (column_of Q k)) (place_of Q k) (planes_in T.mem)
      d.reader announced
      (d.above (column_of P k) (column_below P k h) ∙ ap (λ (c : ℕ). (column_at Q.form T.mem.columns c).modes) (column_same k))
      (beside_modes (column_of P k) S.left T.left d.left ∙ ap (λ (c : ℕ). (beside_of c T.left).modes) (column_same k))
      (sym (step_at_lem P k S) ∙ e) (g ∙ f)

  module _ (k : ℕ) (S T : State) (h : k < P.wide * P.high) (l : Live P S) (o : Live Q T) (d : Moded P.form Q.form P.wide S T) (x w : Finished) (e : step_at P k S ≡ finished x) (f : step_at Q k T ≡ finished w) where
    s : SameModes x w
    s = step_modes k S T h d x w e f

    h' : k < Q.wide * Q.high
    h' = subst (λ (n : ℕ). k < n) (λ i. wide i * high i) h

    above_same : (c : ℕ) → c < P.wide → (c ≡ column_of P k) ⊎ (c ≡ column_of P k → ⊥)
        → (column_at P.form (column_set P.form S.mem.columns (column_of P k) x.top) c).modes ≡ (column_at Q.form (column_set Q.form T.mem.columns (column_of Q k) w.top) c).modes
    above_same c i (inl g) =
        ap (λ (c : ℕ). (column_at P.form (column_set P.form S.mem.columns (column_of P k) x.top) c).modes) g
        ∙ ap (λ (c : Context). c.modes) (above_here z S l k h x e)
        ∙ s.bottom
        ∙ ap (λ (c : Context). c.modes) (sym (above_here y T o k h' w f))
        ∙ ap (λ (c : ℕ). (column_at Q.form (column_set Q.form T.mem.columns (column_of Q k) w.top) c).modes) (sym (g ∙ column_same k))
    above_same c i (inr n) =
        ap (λ (c : Context). c.modes) (above_other z S l k h x e c i n)
        ∙ d.above c i
        ∙ ap (λ (c : Context). c.modes) (sym (above_other y T o k h' w f c (rw wide at i) (λ g. n (g ∙ sym (column_same k)))))

    next_modes : Moded P.form Q.form P.wide (next_of P k S x) (next_of Q k T w)
    next_modes = record {
      reader = s.first;
      left = s.side;
      above = λ c i. above_same c i (eq_or c (column_of P k));
      modes = λ i. mode_set (d.modes i) k (kinds_of (s.modes i)) (s.modes i).modes;
    }

  -- THE LAW: where both have finished k macroblocks, their modes are the same
  pub same_modes : Moded P.form Q.form P.wide S₀ T₀ → {k : ℕ} {S T : State} → k ≤ P.wide * P.high → Reached P S₀ k S → Reached Q T₀ k T → Moded P.form Q.form P.wide S T
  same_modes d h start start = d
  same_modes d h (after {k} {S} {x} r e) (after {S = T} {x = w} q f) =
      let l : k < P.wide * P.high = omega arith in
      let i : k ≤ P.wide * P.high = omega arith in
      let j : k ≤ Q.wide * Q.high = subst (λ (n : ℕ). k ≤ n) (λ i. wide i * high i) i in
      next_modes k S T l (live_reached z i r) (live_reached y j q) (same_modes d i r q) x w e f
