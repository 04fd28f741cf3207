-- The proofs of what is promised of the rescue call (Rescue.antt).
use Rattle.std.specs.Prelude.{◌+◌, ◌-◌, ◌*◌, ◌/◌, ◌≤◌, ◌<◌, ◌≡◌, ◌⊎◌}
use Rattle.numbers.specs.Words.{ℕ, add-mul, div-lt_iff_lt-mul, mul_comm, mul-le-mul_right, one-mul, arith, refl, sym, ◌∙◌, ap, subst, inl, inr, ⊎_elim, lt_or, eq_or, List, length, get_or, Off, Ok, Err}
use Rattle.reader.specs.ReadingLaws.{Bytes}
use Rattle.modes.specs.Modes.{kinds_of}
use Rattle.planes.specs.Places.{Outside}
use Rattle.macroblock.specs.Macroblock.{Finished}
use Rattle.macroblock.specs.StepLaws.{Kept, Elsewhere}
use Rattle.lent.specs.Memory.{mode_width, strength_width, mode_record, strength_record, Memory, sizes_of}
use Rattle.lent.specs.RecordsLaws.{record_set_off}
use Rattle.choices.specs.declared.answer.Stop.TheVariants as Stop
use Rattle.choices.specs.Choices.{Call, refusal_of, number_of, values_of, Decoded}
use Rattle.choices.specs.ChoicesLaws.{refusal_most, named_number}
use Rattle.picture.specs.Picture.{Picture, State, Ended, pictured_of, begun_of, column_of, row_of, planes_in, place_of, next_of, picture_of, Shared, Live}
use Rattle.picture.specs.Halt.{Halted, halt_of, halted_of}
use Rattle.picture.specs.HaltLaws.{halted_picture, halted_good, Alive, halted_alive}
use Rattle.rescue.specs.Rescue.{Saved, saved_at, gone_on, marks_of, RescueEnded, rescue_ended, rescued, saved_of, rescue_of, rescue_number_of, saved_count_of}
use Rattle.rescue.specs.ChecksLaws.{rescue_early, rescue_wrong, rescue_right, rescue_fine}
use Rattle.rescue.specs.RescueLaws.{KeepsToo, outside_rebuilt_at, rest_least, rest_keeps, rest_same, mark_whole, mark_modes, mark_grey, marks_length, marks_at, rescue_bad, rescue_good}
use Rattle.promises.specs.Refusals.{Fine, blank_same, sizes_same, fine_is}
use Rattle.promises.specs.ReachedLaws.{values_from}
use Rattle.promises.specs.Stops.{macroblocks}
use Rattle.promises.specs.Places.{Plane, luma, blue, red, plane_of, plane_side, sample_of, mode_byte, strength_byte, block_at}
use Rattle.promises.specs.KeptLaws.{Sound, sound}
use Rattle.promises.specs.Grey.{InPlane, done}
use Rattle.promises.specs.GreyLaws.{other_block, finished_or_grey}
use Rattle.promises.specs.TwoRuns.{Twins, Same}
use Rattle.promises.specs.Isolation.{SameTokens, Alike}
use Rattle.promises.specs.IsolationLaws.{twins, start_same, inside, Rest, apart}
use Rattle.promises.proofs.Isolated.{isolated}
use Rattle.promises.specs.HaltedLaws.{Together, Halts, together, past, halts, all_together}
use Rattle.promises.specs.Rescue.{rescue_refusal, RescueFine, mark_at, saved, RescueRefused, RescueNumbers, Marked, Saves, RescueIsolated}

-- ---- refusals
module _ (t : Call) (m : Memory) (marks : List ℕ) where
  -- THE PROMISE: which number is given
  pub rescue_numbers_lem : RescueNumbers t m marks
  rescue_numbers_lem = record {
    right = λ e. sym (rescue_right t (sizes_of m) (length marks) e);
    early = λ a b. sym (rescue_early t (sizes_of m) (length marks) a b);
    wrong = λ n a. sym (rescue_wrong t (sizes_of m) (length marks) a n);
  }

  few : rescue_refusal t m marks ≤ 5
  few = go (eq_or (length marks) (macroblocks t))
    where
      r : ℕ
      r = refusal_of t (sizes_of m)

      most : r ≤ 5
      most = refusal_most t (sizes_of m)

      late : (length marks ≡ macroblocks t → ⊥) → (r ≡ 0 → ⊥) → (r < 5) ⊎ (5 ≤ r) → rescue_refusal t m marks ≤ 5
      late n z (inl l) = let e = rescue_numbers_lem.early z l in omega (arith, e, most)
      late n z (inr l) = let e = rescue_numbers_lem.wrong n (inr l) in omega (arith, e)

      other : (length marks ≡ macroblocks t → ⊥) → (r ≡ 0) ⊎ (r ≡ 0 → ⊥) → rescue_refusal t m marks ≤ 5
      other n (inl z) = let e = rescue_numbers_lem.wrong n (inl z) in omega (arith, e)
      other n (inr z) = late n z (lt_or r 5)

      go : (length marks ≡ macroblocks t) ⊎ (length marks ≡ macroblocks t → ⊥) → rescue_refusal t m marks ≤ 5
      go (inl e) = let f = rescue_numbers_lem.right e in omega (arith, f, most)
      go (inr n) = other n (eq_or r 0)

  -- THE PROMISE: a refused argument changes nothing
  pub rescue_refused : (rescue_refusal t m marks ≡ 0 → ⊥) → RescueRefused t m marks
  rescue_refused b =
      let r = rescue_bad t m marks refl b in
      record {
        is = sym r;
        number = sym (ap (λ (E : RescueEnded). rescue_number_of E.answer) r) ∙ named_number (rescue_refusal t m marks) b few;
        least = omega (arith, b);
        most = few;
      }

-- ---- how far it comes after the stop
gone_count : (M : ℕ) (P : Picture) (a : Decoded) (S : State) → values_of a ≤ M → (values_of a ≤ (gone_on M P a S).count) × ((gone_on M P a S).count ≤ M)
gone_count M P (Ok k) S h = (omega arith, h)
gone_count M P (Err (Stop.Refused n)) S h = (omega arith, h)
gone_count M P (Err (Stop.NoModes k)) S h = (omega arith, h)
gone_count M P (Err (Stop.NoTokens k)) S h = let r = rest_least (M - k) P k S in (r.0, omega (arith, r.1))

gone_none : (M : ℕ) (P : Picture) (a : Decoded) (S : State) → (number_of a ≡ 7 → ⊥) → ((gone_on M P a S).count ≡ values_of a) × ((gone_on M P a S).mem ≡ S.mem)
gone_none M P (Ok k) S n = (refl, refl)
gone_none M P (Err (Stop.Refused i)) S n = (refl, refl)
gone_none M P (Err (Stop.NoModes k)) S n = (refl, refl)
gone_none M P (Err (Stop.NoTokens k)) S n = absurd (n refl)

gone_keeps : {P : Picture} (s : Shared P) → Bytes P.first → (g : Memory → ℕ) (a : Decoded) (S : State) → Live P S → values_of a ≤ P.wide * P.high
    → ((j : ℕ) → values_of a ≤ j → j < (gone_on (P.wide * P.high) P a S).count → KeepsToo P g j) → g (gone_on (P.wide * P.high) P a S).mem ≡ g S.mem
gone_keeps s b g (Ok k) S l h f = refl
gone_keeps s b g (Err (Stop.Refused n)) S l h f = refl
gone_keeps s b g (Err (Stop.NoModes k)) S l h f = refl
gone_keeps {P} s b g (Err (Stop.NoTokens k)) S l h f = rest_keeps s b g (P.wide * P.high - k) k S l (omega arith) f

gone_same : (P Q : Picture) → P.first ≡ Q.first → P.frame ≡ Q.frame → P.wide ≡ Q.wide → P.form ≡ Q.form → (M : ℕ) (a : Decoded) (S T : State) → S.reader ≡ T.reader → S.left ≡ T.left → S.mem ≡ T.mem → gone_on M P a S ≡ gone_on M Q a T
gone_same P Q i f w o M (Ok k) S T r l m = ap (saved_at k) m
gone_same P Q i f w o M (Err (Stop.Refused n)) S T r l m = ap (saved_at 0) m
gone_same P Q i f w o M (Err (Stop.NoModes k)) S T r l m = ap (saved_at k) m
gone_same P Q i f w o M (Err (Stop.NoTokens k)) S T r l m = rest_same P Q i f w o (M - k) k S T r l m

-- ---- a macroblock that is rebuilt leaves all others
module _ {P : Picture} {S₀ : State} (z : Sound P S₀) (k : ℕ) (h : k < P.wide * P.high) where
  plane_too : (S : State) (x : Finished) → Elsewhere (place_of P k) (planes_in S.mem) x.planes → (a : Plane)
      → Kept (P.wide * plane_side a) (column_of P k * plane_side a) (row_of P k * plane_side a) (plane_side a) (plane_of a S.mem) (plane_of a (next_of P k S x).mem)
  plane_too S x e luma = e.y
  plane_too S x e blue = subst (λ (i : ℕ). Kept i (column_of P k * 8) (row_of P k * 8) 8 S.mem.u x.planes.u) {x = P.wide * 16 / 2} {y = P.wide * 8} (omega arith) e.u
  plane_too S x e red = subst (λ (i : ℕ). Kept i (column_of P k * 8) (row_of P k * 8) 8 S.mem.v x.planes.v) {x = P.wide * 16 / 2} {y = P.wide * 8} (omega arith) e.v

  pub too_sample : (a : Plane) (c r : ℕ) → c < P.wide * plane_side a → Outside (column_of P k * plane_side a) (row_of P k * plane_side a) (plane_side a) c r → KeepsToo P (sample_of P.wide a c r) k
  too_sample a c r l o = λ S x i e. (plane_too S x (outside_rebuilt_at P S k z.shared i h z.first x e) a).off c r l o

  pub too_mode : (i : ℕ) → Off (k * mode_width) mode_width i → KeepsToo P (mode_byte i) k
  too_mode i o = λ S x l e. record_set_off mode_width S.mem.modes k (mode_record (kinds_of x.modes) x.modes.modes) i o

  pub too_strength : (i : ℕ) → Off (k * strength_width) strength_width i → KeepsToo P (strength_byte i) k
  too_strength i o = λ S x l e. record_set_off strength_width S.mem.strengths k (strength_record x.strength (kinds_of x.modes)) i o

-- ---- none is refused
module _ (t : Call) (m : Memory) (marks : List ℕ) (e : RescueFine t m marks) where
  pub rescue_fine_too : Fine t m
  rescue_fine_too = (rescue_fine t (sizes_of m) (length marks) e).0

  pub rescue_is : rescue_of t m marks ≡ rescued (macroblocks t) (halted_of t m) (saved_of t m)
  rescue_is = rescue_good t m marks (sym e) refl

  answer_is : (halted_of t m).answer ≡ (picture_of t m).answer
  answer_is = ap (λ (E : Ended). E.answer) (halted_picture t m)

  done_is : values_of (halted_of t m).answer ≡ done t m
  done_is = ap values_of answer_is

  saved_is : saved t m marks ≡ (saved_of t m).count
  saved_is = ap (λ (E : RescueEnded). saved_count_of E.answer) rescue_is

  mark_is : (i : ℕ) → i < macroblocks t → mark_at i (rescue_of t m marks) ≡ get_or (marks_of (macroblocks t) (values_of (halted_of t m).answer) (saved_of t m).count) i 0
  mark_is i h = ap (mark_at i) rescue_is

  module _ (b : Bytes t.bytes) where
    alive : Alive (pictured_of t) (macroblocks t) (halted_of t m)
    alive = halted_alive t m rescue_fine_too b

    counted : (values_of (halted_of t m).answer ≤ (saved_of t m).count) × ((saved_of t m).count ≤ macroblocks t)
    counted = gone_count (macroblocks t) (pictured_of t) (halted_of t m).answer (halted_of t m).state alive.upto

    -- THE PROMISE: the marks
    pub marked : Marked t m marks
    marked =
        let k = values_of (halted_of t m).answer in
        let n = (saved_of t m).count in
        record {
          number = ap (λ (E : RescueEnded). rescue_number_of E.answer) rescue_is;
          least = omega (arith, counted.0, done_is, saved_is);
          most = omega (arith, counted.1, saved_is);
          long = ap (λ (E : RescueEnded). length E.marks) rescue_is ∙ marks_length (macroblocks t) k n;
          whole = λ i h. let l : i < macroblocks t = omega (arith, counted.0, counted.1, done_is) in
              mark_is i l ∙ marks_at (macroblocks t) k n i l ∙ sym (mark_whole k n i (omega (arith, done_is)));
          modes = λ i g h. let l : i < macroblocks t = omega (arith, counted.1, saved_is) in
              mark_is i l ∙ marks_at (macroblocks t) k n i l ∙ sym (mark_modes k n i (omega (arith, done_is)) (omega (arith, saved_is)));
          grey = λ i g l. mark_is i l ∙ marks_at (macroblocks t) k n i l ∙ sym (mark_grey k n i (omega (arith, counted.0, saved_is)) (omega (arith, saved_is)));
          none = λ x. saved_is ∙ (gone_none (macroblocks t) (pictured_of t) (halted_of t m).answer (halted_of t m).state (λ y. x (ap number_of (sym answer_is) ∙ y))).0 ∙ done_is;
        }

    z : Sound (pictured_of t) (begun_of t m)
    z = sound t m b rescue_fine_too

    -- what none of the rebuilt macroblocks touches is as the picture call leaves it
    stays : (g : Memory → ℕ) → ((j : ℕ) → done t m ≤ j → j < saved t m marks → j < macroblocks t → KeepsToo (pictured_of t) g j) → g (rescue_of t m marks).mem ≡ g (picture_of t m).mem
    stays g f =
        ap (λ (E : RescueEnded). g E.mem) rescue_is
        ∙ gone_keeps z.shared z.first g (halted_of t m).answer (halted_of t m).state alive.live alive.upto
        (λ j a c. f j (omega (arith, done_is)) (omega (arith, saved_is)) (omega (arith, counted.1)))
        ∙ ap (λ (E : Ended). g E.mem) (halted_picture t m)

    -- THE PROMISE: the memory
    pub saves : Saves t m marks
    saves = record {
      samples = λ a c r i h. stays (sample_of (t.tile.width / 16) a c r)
          (λ j d l v. too_sample z j v a c r i.across (other_block (t.tile.width / 16) (plane_side a) j c r (λ q. omega arith)));
      modes = λ i h. stays (mode_byte i) (λ j d l v. too_mode z j v i (inl (omega arith)));
      strengths = λ i h. stays (strength_byte i) (λ j d l v. too_strength z j v i (inl (omega arith)));
      all = λ x.
          ap (λ (E : RescueEnded). E.mem) rescue_is
          ∙ (gone_none (macroblocks t) (pictured_of t) (halted_of t m).answer (halted_of t m).state (λ y. x (ap number_of (sym answer_is) ∙ y))).1
          ∙ ap (λ (E : Ended). E.mem) (halted_picture t m);
      grey = λ a c r i h. stays (sample_of (t.tile.width / 16) a c r)
          (λ j d l v. too_sample z j v a c r i.across (other_block (t.tile.width / 16) (plane_side a) j c r (λ q. omega arith)))
          ∙ (finished_or_grey t m b rescue_fine_too).grey a c r i (omega (arith, marked.least));
      no_modes = λ i h. stays (mode_byte i) (λ j d l v. too_mode z j v i (inr (omega arith))) ∙ (finished_or_grey t m b rescue_fine_too).no_kinds i (omega (arith, marked.least));
      no_strengths = λ i h. stays (strength_byte i) (λ j d l v. too_strength z j v i (inr (omega arith))) ∙ (finished_or_grey t m b rescue_fine_too).no_strengths i (omega (arith, marked.least));
    }

-- THE PROMISE: what lent memory and marks held before the call does not matter
pub old_memory_rescued_the_same : (t : Call) (m n : Memory) (k l : List ℕ) → RescueFine t m k → RescueFine t n l → rescue_of t m k ≡ rescue_of t n l
old_memory_rescued_the_same t m n k l e f =
    let x = rescue_fine_too t m k e in
    let y = rescue_fine_too t n l f in
    let h : halted_of t m ≡ halted_of t n =
    halted_good t m (sym x) refl
    ∙ ap (λ (b : Memory). halt_of (macroblocks t) (pictured_of t) 0 (record { reader = (begun_of t m).reader; readers = (begun_of t m).readers; left = (begun_of t m).left; mem = b })) (blank_same m n (sizes_same t t m n refl refl refl x y))
    ∙ sym (halted_good t n (sym y) refl) in
    rescue_is t m k e
    ∙ ap (λ (H : Halted). rescued (macroblocks t) H (gone_on (macroblocks t) (pictured_of t) H.answer H.state)) h
    ∙ sym (rescue_is t n l f)

-- ---- isolation
module _ (p : ℕ) (t u : Call) (m n : Memory) (k l : List ℕ) (a : Alike p t u) (e : RescueFine t m k) (f : RescueFine u n l) where
  x : Fine t m
  x = rescue_fine_too t m k e

  y : Fine u n
  y = rescue_fine_too u n l f

  count_same : macroblocks t ≡ macroblocks u
  count_same = λ i. a.width i / 16 * (a.height i / 16)

  -- the second tile's, as many macroblocks as the first has
  second_halts : halted_of u n ≡ halt_of (macroblocks t) (pictured_of u) 0 (begun_of u n)
  second_halts = halted_good u n (sym y) refl ∙ ap (λ (i : ℕ). halt_of i (pictured_of u) 0 (begun_of u n)) (sym count_same)

  -- where both stop together all is the same: what follows is read from the first partition alone
  from_together : {U : ℕ → Type 0} → Twins U (pictured_of t) (pictured_of u) → Together U (halt_of (macroblocks t) (pictured_of t) 0 (begun_of t m)) (halt_of (macroblocks t) (pictured_of u) 0 (begun_of u n)) → rescue_of t m k ≡ rescue_of u n l
  from_together {U} w h =
      let g : Together U (halted_of t m) (halted_of u n) = rw (halted_good t m (sym x) refl, second_halts) h in
      let s : saved_of t m ≡ saved_of u n =
      gone_same (pictured_of t) (pictured_of u) w.first w.frame w.wide w.form (macroblocks t) (halted_of t m).answer (halted_of t m).state (halted_of u n).state g.same.reader g.same.left g.same.mem
      ∙ (λ i. gone_on (count_same i) (pictured_of u) (g.answer i) (halted_of u n).state) in
      rescue_is t m k e
      ∙ (λ i. rescue_ended (Ok (s i).count) (s i).mem (marks_of (count_same i) (values_of (g.answer i)) (s i).count))
      ∙ sym (rescue_is u n l f)

  -- every partition that is read is the same
  all_rescued : ((q : ℕ) → q < t.tile.count → SameTokens t u q) → rescue_of t m k ≡ rescue_of u n l
  all_rescued s =
      let U : ℕ → Type 0 = λ q. q < t.tile.count in
      let w = twins p t u m n a x y U (λ q h. h) s in
      from_together w (all_together w (macroblocks t) (λ j h. inside p t u m n a x y j) (λ j h. inside p t u m n a x y j) (start_same p t u m n a x y U (λ q h. h) s) (macroblocks t) (omega arith))

  -- both stop together, or both come to row p
  by_halts : (C : Type 0) → (rescue_of t m k ≡ rescue_of u n l → C)
      → (p * (t.tile.width / 16) < macroblocks t → p * (t.tile.width / 16) ≤ done t m → p * (t.tile.width / 16) ≤ done u n → C) → C
  by_halts C same far = ⊎_elim below (λ h. same (all_rescued (λ q i. a.tokens q i (λ z. omega arith)))) (lt_or p t.tile.count)
    where
      below : p < t.tile.count → C
      below h = go (halts w (p * (t.tile.width / 16)) (λ j i. (inside p t u m n a x y j, apart p t u m n a x y h j i)) (λ j i. inside p t u m n a x y j) s (macroblocks t))
        where
          w : Twins (Rest p t u m n a x y) (pictured_of t) (pictured_of u)
          w = twins p t u m n a x y (Rest p t u m n a x y) (λ q r. r.0) (λ q r. a.tokens q r.0 r.1)

          s : Same (Rest p t u m n a x y) (begun_of t m) (begun_of u n)
          s = start_same p t u m n a x y (Rest p t u m n a x y) (λ q r. r.0) (λ q r. a.tokens q r.0 r.1)

          go : Halts w (p * (t.tile.width / 16)) (λ j i. (inside p t u m n a x y j, apart p t u m n a x y h j i)) (λ j i. inside p t u m n a x y j) s (macroblocks t) → C
          go (together g) = same (from_together w g)
          go (past i r q) =
              let v : p * (t.tile.width / 16) ≤ done t m = rw (fine_is t m x) (values_from (macroblocks t) (omega arith) r) in
              let o : p * (t.tile.width / 16) ≤ macroblocks u = subst (λ (c : ℕ). p * (t.tile.width / 16) ≤ c) count_same (omega arith) in
              let w : p * (t.tile.width / 16) ≤ done u n = rw (fine_is u n y) (values_from (macroblocks u) o q) in
              far i v w

  -- row p exists where both come to it
  row_exists : p * (t.tile.width / 16) < macroblocks t → p < t.tile.height / 16
  row_exists i = ⊎_elim (λ h. h) (λ h. absurd (omega (arith, mul-le-mul_right {m = t.tile.height / 16} {n = p} (t.tile.width / 16) h, mul_comm (t.tile.width / 16) (t.tile.height / 16)))) (lt_or p (t.tile.height / 16))

  module _ (b : Bytes t.bytes) (d : Bytes u.bytes) where
    s₁ : Saves t m k
    s₁ = saves t m k e b

    s₂ : Saves u n l
    s₂ = saves u n l f d

    wide : u.tile.width ≡ t.tile.width
    wide = sym a.width

    -- a sample above row p lies in a macroblock above row p
    above : (side : ℕ) → 0 < side → (w c r : ℕ) → c < w * side → r < p * side → r / side * w + c / side < p * w
    above side o w c r h i =
        let x : c / side < w = (div-lt_iff_lt-mul o).1 h in
        let y : r / side < p = (div-lt_iff_lt-mul o).1 i in
        omega (arith, mul-le-mul_right {m = r / side + 1} {n = p} w (omega arith), add-mul (r / side) 1 w, one-mul w)

    some_side : (o : Plane) → 0 < plane_side o
    some_side luma = omega arith
    some_side blue = omega arith
    some_side red = omega arith

    sample_same : (o : Plane) (c r : ℕ) → c < t.tile.width / 16 * plane_side o → r < p * plane_side o
        → sample_of (t.tile.width / 16) o c r (rescue_of t m k).mem ≡ sample_of (t.tile.width / 16) o c r (rescue_of u n l).mem
    sample_same o c r h i =
        by_halts (sample_of (t.tile.width / 16) o c r (rescue_of t m k).mem ≡ sample_of (t.tile.width / 16) o c r (rescue_of u n l).mem)
        (ap (λ (E : RescueEnded). sample_of (t.tile.width / 16) o c r E.mem))
        (λ q v w.
        let j : block_at (t.tile.width / 16) o c r < p * (t.tile.width / 16) = above (plane_side o) (some_side o) (t.tile.width / 16) c r h i in
        let g : r < t.tile.height / 16 * plane_side o = omega (arith, mul-le-mul_right {m = p} {n = t.tile.height / 16} (plane_side o) (omega (arith, row_exists q))) in
        let G : InPlane u o c r = record { across = subst (λ (x : ℕ). c < x / 16 * plane_side o) a.width h; down = subst (λ (x : ℕ). r < x / 16 * plane_side o) a.height g } in
        let J : block_at (u.tile.width / 16) o c r < done u n = subst (λ (x : ℕ). block_at (x / 16) o c r < done u n) a.width (omega arith) in
        s₁.samples o c r (record { across = h; down = g }) (omega arith)
        ∙ (isolated p t u m n a x y b d).samples o c r h i
        ∙ sym (subst (λ (x : ℕ). sample_of (x / 16) o c r (rescue_of u n l).mem ≡ sample_of (x / 16) o c r (picture_of u n).mem) wide (s₂.samples o c r G J)))

    -- THE PROMISE, demand 3
    pub rescue_isolated : RescueIsolated p t u m n k l
    rescue_isolated = record {
      samples = sample_same;
      modes = λ i h. by_halts _ (ap (λ (E : RescueEnded). mode_byte i E.mem))
          (λ q v w. s₁.modes i (omega arith) ∙ (isolated p t u m n a x y b d).modes i h ∙ sym (s₂.modes i (omega arith)));
      strengths = λ i h. by_halts _ (ap (λ (E : RescueEnded). strength_byte i E.mem))
          (λ q v w. s₁.strengths i (omega arith) ∙ (isolated p t u m n a x y b d).strengths i h ∙ sym (s₂.strengths i (omega arith)));
      marks = λ i h. by_halts _ (ap (mark_at i)) (λ q v w. (marked t m k e b).whole i (omega arith) ∙ sym ((marked u n l f d).whole i (omega arith)));
      stops = λ h. by_halts _ (λ g. g) (λ q v w. absurd (omega arith));
      no_row = λ h. by_halts _ (λ g. g) (λ q v w. absurd (omega (arith, row_exists q)));
      no_difference = λ s. all_rescued (λ q i. ⊎_elim (λ (z : q ≡ p). subst (SameTokens t u) (sym z) s) (λ z. a.tokens q i z) (eq_or q p));
      ignored = λ h. all_rescued (λ q i. a.tokens q i (λ z. omega arith));
    }
