-- The turns of the loop after the stop, on plain values.
use Rattle.numbers.specs.Words.{ℕ, zero, suc, ◌+◌, ◌-◌, ◌*◌, ◌≤◌, ◌<◌, arith, ◌≡◌, refl, sym, ◌∙◌, ap, subst, ⊎_elim, [], ◌∷◌, set, Ok, Err}
use types.Run.{OneOf}
use denote.Enum.Declared.{tag_of}
use Rattle.reader.specs.Reading.{no_reader_of}
use Rattle.reader.specs.ReadingLaws.{Bytes}
use Rattle.macroblock.specs.declared.ending.Unfinished.TheVariants as F
use Rattle.macroblock.specs.declared.arguments.Readers.{Readers}
use Rattle.macroblock.specs.Macroblock.{Finish, Step, finished, no_modes, no_tokens, finish_number_of}
use Rattle.choices.specs.declared.answer.Stop.TheVariants as Stop
use Rattle.choices.specs.Choices.{values_of, Decoded}
use Rattle.picture.specs.Picture.{Picture, State, column_of, partition_of, next_of, Turned, turned, Shared, Live}
use Rattle.picture.specs.PictureLaws.{live_next}
use Rattle.rescue.specs.Rescue.{rebuilt_at, Saved, saved_at, rest_of, gone_on}
use Rattle.rescue.specs.RescueLaws.{at_never, ends_rebuilt_at, rest_none, rest_rebuilt, rest_no_modes}

-- every answer of a macroblock but Ok is a refusal
pub not_done : (a : Finish) → ((r : Readers) → a ≡ Ok r → ⊥) → finish_number_of a ≡ 0 → ⊥
not_done (Ok r) h z = h r refl
not_done (Err F.NoModes) h z = omega arith
not_done (Err F.NoTokens) h z = omega arith
not_done (Err F.Refused) h z = omega arith

-- where tokens did not run out the picture stays as it is
pub gone_none : (M : ℕ) (P : Picture) (a : Decoded) (S : State) → ((k : ℕ) → a ≡ Err (Stop.NoTokens k) → ⊥) → {n : ℕ} → n ≡ values_of a → saved_at n S.mem ≡ gone_on M P a S
gone_none M P (Ok k) S e f = rw f
gone_none M P (Err (Stop.Refused n)) S e f = rw f
gone_none M P (Err (Stop.NoModes k)) S e f = rw f
gone_none M P (Err (Stop.NoTokens k)) S e f = absurd (e k refl)

-- and where they did the rest is from modes
pub gone_tokens : (M : ℕ) (P : Picture) {a : Decoded} (S : State) {k : ℕ} {E : Saved} → a ≡ Err (Stop.NoTokens k) → E ≡ rest_of (M - k) P k S → E ≡ gone_on M P a S
gone_tokens M P S e f = f ∙ sym (ap (λ (a : Decoded). gone_on M P a S) e)

pub tokens_upto : {a : Decoded} {k n : ℕ} → a ≡ Err (Stop.NoTokens k) → values_of a ≤ n → k ≤ n
tokens_upto {n} e h = subst (λ (a : Decoded). values_of a ≤ n) e h

pub some_wide : (w h k : ℕ) → k < w * h → 0 < w
some_wide zero h k l = absurd (omega arith)
some_wide (suc w) h k l = omega arith

-- from macroblock k, with the state S, the rest of the picture gives E
pub record Going (P : Picture) (E : Saved) (k : ℕ) (S : State) : Type 0 where
  pub rest : ℕ
  pub sum : k + rest ≡ P.wide * P.high
  pub same : rest_of rest P k S ≡ E
  pub live : Live P S

pub going_start : (P : Picture) (k : ℕ) (S : State) → k ≤ P.wide * P.high → Live P S → Going P (rest_of (P.wide * P.high - k) P k S) k S
going_start P k S h l = record { rest = P.wide * P.high - k; sum = omega arith; same = refl; live = l }

module _ {P : Picture} {E : Saved} {k : ℕ} {S : State} (s : Shared P) (g : Going P E k S) (h : k < P.wide * P.high) where
  -- a turn that ends it
  pub going_refused : (T : Turned) → T ≡ turned P.form S.left k (column_of P k) S.mem (rebuilt_at P k S) → (finish_number_of T.answer ≡ 0 → ⊥) → saved_at k T.mem ≡ E
  going_refused T e z = go g.rest g.sum g.same (rebuilt_at P k S) refl e
    where
      go : (m : ℕ) → k + m ≡ P.wide * P.high → rest_of m P k S ≡ E → (t : Step) → rebuilt_at P k S ≡ t → T ≡ turned P.form S.left k (column_of P k) S.mem t → saved_at k T.mem ≡ E
      go zero a b t u e = absurd (omega arith)
      go (suc m) a b (finished x) u e = absurd (z (ap (λ (y : Turned). finish_number_of y.answer) e))
      go (suc m) a b no_modes u e = ap (λ (y : Turned). saved_at k y.mem) e ∙ sym (rest_no_modes m P k S u) ∙ b
      go (suc m) a b no_tokens u e = absurd (at_never P k S u)

  -- a turn that goes on
  pub going_next : Bytes P.first → (T : Turned) → T ≡ turned P.form S.left k (column_of P k) S.mem (rebuilt_at P k S) → {r : Readers} → T.answer ≡ Ok r
      → {p : ℕ} → p ≡ partition_of P k → Going P E (k + 1) (record { reader = r.first; readers = set S.readers p r.token; left = T.left; mem = T.mem })
  going_next y T e {r} f {p} q = go g.rest g.sum g.same (rebuilt_at P k S) refl e
    where
      after : Finish → Readers
      after (Ok a) = a
      after (Err w) = record { first = no_reader_of; token = no_reader_of }

      go : (m : ℕ) → k + m ≡ P.wide * P.high → rest_of m P k S ≡ E → (u : Step) → rebuilt_at P k S ≡ u → T ≡ turned P.form S.left k (column_of P k) S.mem u
          → Going P E (k + 1) (record { reader = r.first; readers = set S.readers p r.token; left = T.left; mem = T.mem })
      go zero a b u t e = absurd (omega arith)
      go (suc m) a b (finished x) t e =
          let i : r ≡ x.readers = ap after (sym f ∙ ap (λ (y : Turned). y.answer) e) in
          let c : ◌≡◌ {A = State} (record { reader = r.first; readers = set S.readers p r.token; left = T.left; mem = T.mem }) (next_of P k S x) = λ o. record { reader = (i o).first; readers = set S.readers (q o) (i o).token; left = (e o).left; mem = (e o).mem } in
          rw c
          (record {
            rest = m;
            sum = omega arith;
            same = sym (rest_rebuilt m P k S x t) ∙ b;
            live = live_next P S k s g.live h x (ends_rebuilt_at P S k s g.live h y x t);
          })
      go (suc m) a b no_modes t e = absurd (let n : 0 ≡ finish_number_of (turned P.form S.left k (column_of P k) S.mem no_modes).answer = sym (ap finish_number_of f) ∙ ap (λ (y : Turned). finish_number_of y.answer) e in omega arith)
      go (suc m) a b no_tokens t e = absurd (at_never P k S t)

pub going_end : {P : Picture} {E : Saved} {k : ℕ} {S : State} → Going P E k S → P.wide * P.high ≤ k → saved_at k S.mem ≡ E
going_end {P} {E} {k} {S} g h = go g.rest g.sum g.same
  where
    go : (m : ℕ) → k + m ≡ P.wide * P.high → rest_of m P k S ≡ E → saved_at k S.mem ≡ E
    go zero a b = sym (rest_none P k S) ∙ b
    go (suc m) a b = absurd (omega arith)
