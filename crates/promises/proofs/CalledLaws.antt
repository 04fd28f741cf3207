-- The call from C is the picture call: what is promised of the one holds of the other.
use Rattle.std.specs.Prelude.{◌≤◌, ◌≡◌, ◌⊎◌}
use Rattle.numbers.specs.Words.{ℕ, arith, refl, sym, ◌∙◌, ap, ap₂, inl, inr, ⊎_elim, eq_or, List, length, ℤ}
use Rattle.reader.specs.Reading.{Bytes}
use Rattle.lent.specs.Memory.{Memory, sizes_of}
use Rattle.choices.specs.Choices.{Call, refusal_of, number_of, values_of}
use Rattle.picture.specs.Picture.{Picture, State, Ended, picture_of, cost_of}
use Rattle.macroblock.specs.declared.arguments.SymbolCounts.{SymbolCounts}
use Rattle.picture.specs.CountsLaws.{cost_bad}
use Rattle.boundary.specs.TileNumbersLaws.{fits_where_valid}
use Rattle.hookbarley.specs.Calls.{PictureCalled, to_picture_called, called_numbers, handed_call, called_of}
use Rattle.hookbarley.specs.CallsLaws.{called_refused, called_picture}
use Rattle.promises.specs.Refusals.{Fine, number, Decided, refused_changes_nothing, first_check_decides}
use Rattle.promises.specs.Reached.{Ending, whole, modes_out, tokens_out}
use Rattle.promises.specs.Stops.{stops_at}
use Rattle.promises.specs.GreyLaws.{finished_or_grey}
use Rattle.promises.specs.CostLaws.{same_costs}
use Rattle.promises.specs.Isolation.{Alike}
use Rattle.promises.proofs.Isolated.{isolated}
use Rattle.promises.specs.Called.{CalledEnds, CalledIsolated}

module _ (bytes : List ℕ) (header : List ℤ) (tile : List ℕ) (m : Memory) where
  -- the picture call that the numbers make
  abbrev c : Call
  c = handed_call bytes header tile

  -- a number other than 0, 6 and 7 is a refusal's
  check_refused : (n : ℕ) → 1 ≤ n → n ≤ 5 → length tile ≡ 28 → number c m ≡ n → called_of bytes header tile m ≡ called_numbers n 0 0 0 m
  check_refused n least most e f = ⊎_elim
      (λ z. absurd (good z))
      (λ z. let r = refused_changes_nothing c m z in let k = cost_bad c m refl z in called_picture bytes header tile m e ∙ (λ i. called_numbers (f i) (r.none i) (k i).first (k i).tokens (r.unchanged i)))
      (eq_or (refusal_of c (sizes_of m)) 0)
    where
      number_of_lem : {P : Picture} {S : State} {k : ℕ} {o : Ended} → Ending P S k o → number_of o.answer ≡ n → ⊥
      number_of_lem (whole r) g = omega arith
      number_of_lem (modes_out l r h) g = omega arith
      number_of_lem (tokens_out l r h j) g = omega arith

      good : Fine c m → ⊥
      good z = number_of_lem (stops_at c m z).one f

  pub called_ends : CalledEnds bytes header tile (handed_call bytes header tile) m
  called_ends = record {
    nine = λ n. sym (called_refused bytes header tile m n);
    one = λ e n. check_refused 1 (omega arith) (omega arith) e (decided.one n);
    two = λ e a n. check_refused 2 (omega arith) (omega arith) e (decided.two a n);
    three = λ e a b n. check_refused 3 (omega arith) (omega arith) e (decided.three a b n);
    four = λ e a b d n. check_refused 4 (omega arith) (omega arith) e (decided.four a b d n);
    five = λ e a b d g n. check_refused 5 (omega arith) (omega arith) e (decided.five a b d g n);
    fields = λ k. fits_where_valid tile k.reader;
    ends = λ e z. one_of (called_picture bytes header tile m e) (stops_at c m z).one;
    whole = λ e z r. called_picture bytes header tile m e ∙ ap (λ (o : Ended). to_picture_called o (cost_of c m)) ((stops_at c m z).whole r);
    modes = λ e z h r g. called_picture bytes header tile m e ∙ ap (λ (o : Ended). to_picture_called o (cost_of c m)) ((stops_at c m z).modes h r g);
    tokens = λ e z h r g j. called_picture bytes header tile m e ∙ ap (λ (o : Ended). to_picture_called o (cost_of c m)) ((stops_at c m z).tokens h r g j);
    finished = λ e. ap (λ (E : PictureCalled). E.finished) (called_picture bytes header tile m e);
    memory = λ e. ap (λ (E : PictureCalled). E.mem) (called_picture bytes header tile m e);
    grey = finished_or_grey c m;
  }
    where
      decided : Decided c m
      decided = first_check_decides c m

      one_of : {P : Picture} {S : State} {k : ℕ} {o : Ended} {E : PictureCalled} {q : SymbolCounts} → E ≡ to_picture_called o q → Ending P S k o → (E.number ≡ 0) ⊎ (E.number ≡ 6) ⊎ (E.number ≡ 7)
      one_of e (whole r) = inl (ap (λ (E : PictureCalled). E.number) e)
      one_of e (modes_out l r h) = inr (inl (ap (λ (E : PictureCalled). E.number) e))
      one_of e (tokens_out l r h j) = inr (inr (ap (λ (E : PictureCalled). E.number) e))

-- ---- two calls
-- of the picture call's answers, whatever numbers it was given as
two_calls : (p : ℕ) (t u : Call) (m n : Memory) → Alike p t u → Fine t m → Fine u n → Bytes t.bytes → Bytes u.bytes → CalledIsolated p t u (to_picture_called (picture_of t m) (cost_of t m)) (to_picture_called (picture_of u n) (cost_of u n))
two_calls p t u m n a e f b d =
    let i = isolated p t u m n a e f b d in
    let s = same_costs p t u m n a e f in
    record {
      samples = i.samples;
      modes = i.modes;
      strengths = i.strengths;
      stops = λ h. i.stops (number_of (picture_of t m).answer) (values_of (picture_of t m).answer) h (refl, refl);
      stops_too = λ h. i.stops_too (number_of (picture_of u n).answer) (values_of (picture_of u n).answer) h (refl, refl);
      kinds = i.kinds;
      no_row = λ h. ap₂ to_picture_called (i.no_row h) (s.no_row h);
      no_difference = λ h. ap₂ to_picture_called (i.no_difference h) (s.no_difference h);
      ignored = λ h. ap₂ to_picture_called (i.ignored h) (s.ignored h);
    }

-- THE PROMISE
pub called_isolated : (p : ℕ) (b d : List ℕ) (h k : List ℤ) (x y : List ℕ) (m n : Memory) → length x ≡ 28 → length y ≡ 28 → let t = handed_call b h x in let u = handed_call d k y in
    Alike p t u → Fine t m → Fine u n → Bytes b → Bytes d → CalledIsolated p t u (called_of b h x m) (called_of d k y n)
called_isolated p b d h k x y m n i j a e f s o =
    rw (called_picture b h x m i, called_picture d k y n j) (two_calls p (handed_call b h x) (handed_call d k y) m n a e f s o)
