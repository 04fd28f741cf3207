-- The laws of the survey: records added, and the call.
use Rattle.std.specs.Prelude.{◌+◌, ◌*◌, ◌/◌, ◌≤◌, ◌<◌, ◌≡◌, ◌⊎◌}
use Rattle.numbers.specs.Words.{ℕ, zero, suc, add-one, mul-le-mul, ℕ_discrete, arith, refl, sym, ◌∙◌, ap, subst, Bool, true, false, inl, inr, eqb, lt_or, eq_or, never, both_true, both_false, eq-eqb, le-leb, lt-leb, ne_eqb, List, length, get_or, set, length-set, get_or-set_other, get_or-set_same, length_build, get_or_build, built}
use Rattle.lent.specs.Memory.{Memory, sizes_of}
use Rattle.macroblock.specs.declared.arguments.SymbolCounts.{SymbolCounts}
use Rattle.macroblock.specs.Macroblock.{no_reads, Step, finished, no_modes, no_tokens}
use Rattle.tile.specs.Tile.{blocks_of}
use Rattle.choices.specs.Choices.{Call, refusal_of, number_of, values_of}
use Rattle.choices.specs.ChoicesLaws.{fine_side}
use Rattle.picture.specs.Picture.{Picture, State, Ended, pictured_of, begun_of, step_at, next_of, run_of, picture_of, cost_of}
use Rattle.picture.specs.PictureLaws.{run_none, run_finished, run_no_modes, run_no_tokens}
use Rattle.picture.specs.CallLaws.{picture_bad, picture_good}
use Rattle.survey.specs.TallyLaws.{tallied_long}
use Rattle.survey.specs.Survey.{tallied_of, count_limit, fits_to, Passed, sum_of, Added, add_of, survey_ended, told_of, folded_of, added_of, survey_of}

-- ---- adding
module _ (l a : List ℕ) where
  pub fits_none : fits_to l a 0 ≡ true
  unfolding fits_to
  fits_none = refl

  pub fits_next : (i : ℕ) → fits_to l a i ≡ true → get_or l i 0 + get_or a i 0 ≤ count_limit → fits_to l a (i + 1) ≡ true
  unfolding fits_to
  fits_next i e h = rw (add-one i) (both_true e (le-leb _ _ h))

  pub fits_out : (n i : ℕ) → i < n → count_limit < get_or l i 0 + get_or a i 0 → false ≡ fits_to l a n
  unfolding fits_to
  fits_out zero i h g = absurd (omega arith)
  fits_out (suc n) i h g = elim (eq_or i n) [
    | inl e ↦ sym (both_false (fits_to l a n) (rw e at (lt-leb _ _ g)))
    | inr e ↦ rw (← fits_out n i (omega arith) g)
  ]

  pub fits_all : (i : ℕ) → i ≤ 37 → 37 ≤ i → fits_to l a i ≡ true → true ≡ fits_to l a 37
  fits_all i h g e = let z : i ≡ 37 = omega arith in sym (rw z at e)

  pub fits_each : (n i : ℕ) → fits_to l a n ≡ true → i < n → get_or l i 0 + get_or a i 0 ≤ count_limit
  fits_each n i e h = elim (lt_or count_limit (get_or l i 0 + get_or a i 0)) [
    | inl g ↦ absurd (never e (sym (fits_out n i h g)))
    | inr g ↦ g
  ]

  -- all fit where each does; where not all do, one passes
  pub fits_where : (n : ℕ) → ((i : ℕ) → i < n → get_or l i 0 + get_or a i 0 ≤ count_limit) → fits_to l a n ≡ true
  unfolding fits_to
  fits_where zero h = refl
  fits_where (suc n) h = both_true (fits_where n (λ i k. h i (omega arith))) (le-leb _ _ (h n (omega arith)))

  pub fits_passed : (n : ℕ) → fits_to l a n ≡ false → Passed l a n
  unfolding fits_to
  fits_passed zero e = absurd (never refl e)
  fits_passed (suc n) e = go (fits_passed n) (fits_to l a n) refl (lt_or count_limit (get_or l n 0 + get_or a n 0))
    where
      go : (fits_to l a n ≡ false → Passed l a n) → (b : Bool) → fits_to l a n ≡ b → (count_limit < get_or l n 0 + get_or a n 0) ⊎ (get_or l n 0 + get_or a n 0 ≤ count_limit) → Passed l a (suc n)
      go ih b f (inl h) = record { place = n; inside = omega arith; passes = h }
      go ih false f (inr h) = let p = ih f in record { place = p.place; inside = omega (arith, p.inside); passes = p.passes }
      go ih true f (inr h) = absurd (never (both_true f (le-leb _ _ h)) e)

  pub fits_or : (n : ℕ) → ((i : ℕ) → i < n → get_or l i 0 + get_or a i 0 ≤ count_limit) ⊎ Passed l a n
  fits_or n = go (fits_to l a n) refl
    where
      go : (b : Bool) → fits_to l a n ≡ b → ((i : ℕ) → i < n → get_or l i 0 + get_or a i 0 ≤ count_limit) ⊎ Passed l a n
      go true e = inl (λ i h. fits_each n i e h)
      go false e = inr (fits_passed n e)

  pub passed_fits : (n : ℕ) → Passed l a n → fits_to l a n ≡ false
  passed_fits n p = sym (fits_out n p.place p.inside p.passes)

pub record Adding (l a now : List ℕ) (i : ℕ) : Type 0 where
  pub long : length now ≡ 37
  pub upto : i ≤ 37
  pub done : (k : ℕ) → k < i → get_or now k 0 ≡ get_or l k 0 + get_or a k 0
  pub rest : (k : ℕ) → i ≤ k → get_or now k 0 ≡ get_or l k 0

module _ (l a : List ℕ) where
  pub adding_start : length l ≡ 37 → Adding l a l 0
  adding_start e = record { long = e; upto = omega arith; done = λ k h. absurd (omega arith); rest = λ k h. refl }

  module _ (now : List ℕ) (i : ℕ) (g : Adding l a now i) where
    pub adding_next : (v : ℕ) → v ≡ get_or now i 0 + get_or a i 0 → i < 37 → Adding l a (set now i v) (i + 1)
    adding_next v e h = record {
      long = length-set now i v ∙ g.long;
      upto = omega arith;
      done = λ k q. elim (ℕ_discrete k i) [
        | yes z ↦ rw z (get_or-set_same now i v 0 (rw g.long h) ∙ e ∙ ap (λ (n : ℕ). n + get_or a i 0) (g.rest i (omega arith)))
        | no z ↦ get_or-set_other now i k v 0 z ∙ g.done k (omega arith)
      ];
      rest = λ k q. get_or-set_other now i k v 0 (λ z. omega arith) ∙ g.rest k (omega arith);
    }

    pub adding_fits : fits_to l a 37 ≡ true → i < 37 → get_or now i 0 + get_or a i 0 ≤ count_limit
    adding_fits e h = rw (g.rest i (omega arith)) (fits_each l a 37 i e h)

    pub adding_end : 37 ≤ i → now ≡ sum_of l a
    unfolding sum_of
    adding_end h = built now 37 (λ i. get_or l i 0 + get_or a i 0) 0 g.long (λ k q. g.done k (omega arith))

  -- the call, as the code goes
  pub add_long : (length l ≡ 37 → ⊥) → ◌≡◌ {A = Added} (record { number = 9; counts = l }) (add_of l a)
  unfolding add_of
  add_long n = rw (ne_eqb _ _ n, add_of)

  pub add_other : (length a ≡ 37 → ⊥) → ◌≡◌ {A = Added} (record { number = 9; counts = l }) (add_of l a)
  unfolding add_of
  add_other n = rw (both_false (eqb (length l) 37) (ne_eqb _ _ n), add_of)

  module _ (e : length l ≡ 37) (f : length a ≡ 37) where
    pub add_full : fits_to l a 37 ≡ false → ◌≡◌ {A = Added} (record { number = 15; counts = l }) (add_of l a)
    unfolding add_of
    add_full g = rw (both_true (eq-eqb (length l) 37 e) (eq-eqb (length a) 37 f), g, add_of)

    pub add_fits : fits_to l a 37 ≡ true → {k : List ℕ} → k ≡ sum_of l a → ◌≡◌ {A = Added} (record { number = 0; counts = k }) (add_of l a)
    unfolding add_of
    add_fits g q = ap (λ (k : List ℕ). record { number = 0; counts = k }) q ∙ rw (both_true (eq-eqb (length l) 37 e) (eq-eqb (length a) 37 f), g, add_of)

    -- the answer, by the sums
    pub add_done : ((i : ℕ) → i < 37 → get_or l i 0 + get_or a i 0 ≤ count_limit) → add_of l a ≡ record { number = 0; counts = sum_of l a }
    add_done h = sym (add_fits (fits_where l a 37 h) refl)

    pub add_passed : Passed l a 37 → add_of l a ≡ record { number = 15; counts = l }
    add_passed p = sym (add_full (passed_fits l a 37 p))

module _ (l a : List ℕ) where
  pub sum_long : length (sum_of l a) ≡ 37
  unfolding sum_of
  sum_long = length_build 37 (λ i. get_or l i 0 + get_or a i 0)

  pub sum_at_lem : (i : ℕ) → i < 37 → get_or (sum_of l a) i 0 ≡ get_or l i 0 + get_or a i 0
  unfolding sum_of
  sum_at_lem i h = get_or_build 37 (λ i. get_or l i 0 + get_or a i 0) i 0 h

-- ---- a picture finishes at most its macroblocks
run_most : (n : ℕ) (P : Picture) (k : ℕ) (S : State) → values_of (run_of n P k S).answer ≤ k + n
run_most zero P k S = rw (run_none P k S) (omega arith)
run_most (suc n) P k S = go (λ T. run_most n P (k + 1) T) (step_at P k S) refl
  where
    go : ((T : State) → values_of (run_of n P (k + 1) T).answer ≤ k + 1 + n) → (x : Step) → step_at P k S ≡ x → values_of (run_of (suc n) P k S).answer ≤ k + suc n
    go ih (finished x) e = rw (run_finished n P k S x e) (omega (arith, ih (next_of P k S x)))
    go ih no_modes e = rw (run_no_modes n P k S e) (omega arith)
    go ih no_tokens e = rw (run_no_tokens n P k S e) (omega arith)

pub picture_most : (c : Call) (m : Memory) → values_of (picture_of c m).answer ≤ 1048576
picture_most c m = elim (eq_or (refusal_of c (sizes_of m)) 0) [
  | inl e ↦
      let s = fine_side c (sizes_of m) e in
      let a : c.tile.width / 16 ≤ 1024 = omega (arith, s.width.most) in
      let b : c.tile.height / 16 ≤ 1024 = omega (arith, s.height.most) in
      let p : c.tile.width / 16 * (c.tile.height / 16) ≤ 1024 * 1024 = mul-le-mul a b in
      rw (picture_good c m refl e) (omega (arith, run_most (blocks_of c.tile.width c.tile.height) (pictured_of c) 0 (begun_of c m)))
  | inr e ↦ rw (← picture_bad c m refl e) (omega arith)
]

-- as the code finds it
pub survey_most : (c : Call) (m : Memory) {E : Ended} {k : ℕ} → E ≡ picture_of c m → k ≡ values_of E.answer → k ≤ 1048576
survey_most c m e f = let g : values_of (picture_of c m).answer ≡ _ = sym (f ∙ ap (λ (E : Ended). values_of E.answer) e) in subst (λ (n : ℕ). n ≤ 1048576) g (picture_most c m)

-- ---- what is told
told_go : (x f : ℕ) → (f ≡ 0 → ⊥) → f ≡ told_of x f
unfolding told_of
told_go x zero h = absurd (h refl)
told_go x (suc f) h = refl

pub told_other : (x f : ℕ) → (f ≡ 0 → ⊥) → f ≡ told_of x f
told_other x f h = told_go x f h

pub told_none : (x f : ℕ) → f ≡ 0 → x ≡ told_of x f
unfolding told_of
told_none x f e = rw (e, told_of)

-- ---- the call, as the code goes
module _ (c : Call) (m : Memory) (l : List ℕ) where
  pub survey_long : (length l ≡ 37 → ⊥) → survey_ended (record { number = 9; finished = 0; reads = no_reads }) m l ≡ survey_of c m l
  unfolding survey_of
  survey_long n = rw (ne_eqb _ _ n, survey_of)

  pub survey_found : {E : Ended} {reads : SymbolCounts} {number k full : ℕ} {added after : List ℕ} → length l ≡ 37 → E ≡ picture_of c m → reads ≡ cost_of c m → number ≡ number_of E.answer → k ≡ values_of E.answer
      → added ≡ tallied_of number k reads E.mem.modes E.mem.strengths → ◌≡◌ {A = Added} (record { number = full; counts = after }) (add_of l added)
      → (t : ℕ) → t ≡ told_of number full → survey_ended (record { number = t; finished = k; reads = reads }) E.mem after ≡ survey_of c m l
  unfolding survey_of
  survey_found {E} {reads} {number} {k} {full} {added} {after} h e r n v d a t q =
      let d' : added ≡ added_of c m = d ∙ (λ i. tallied_of (n i) (v i) (r i) E.mem.modes E.mem.strengths) ∙ (λ i. tallied_of (number_of (e i).answer) (values_of (e i).answer) (cost_of c m) (e i).mem.modes (e i).mem.strengths) in
      let a' : ◌≡◌ {A = Added} (record { number = full; counts = after }) (add_of l (added_of c m)) = a ∙ ap (add_of l) d' in
      (λ i. survey_ended (record { number = q i; finished = k; reads = reads }) E.mem after)
      ∙ (λ i. survey_ended (record { number = told_of (n i) (a' i).number; finished = v i; reads = r i }) E.mem (a' i).counts)
      ∙ (λ i. folded_of (e i) (cost_of c m) (add_of l (added_of c m)))
      ∙ rw (eq-eqb (length l) 37 h, survey_of)

  -- ---- what it answers, by the sums
  pub added_long : length (added_of c m) ≡ 37
  added_long = let e = picture_of c m in tallied_long (number_of e.answer) (values_of e.answer) (cost_of c m) e.mem.modes e.mem.strengths

  module _ (h : length l ≡ 37) where
    survey_is : survey_of c m l ≡ folded_of (picture_of c m) (cost_of c m) (add_of l (added_of c m))
    unfolding survey_of
    survey_is = rw (eq-eqb (length l) 37 h, survey_of)

    pub survey_added : ((i : ℕ) → i < 37 → get_or l i 0 + get_or (added_of c m) i 0 ≤ count_limit)
        → survey_of c m l ≡ survey_ended (record { number = number_of (picture_of c m).answer; finished = values_of (picture_of c m).answer; reads = cost_of c m }) (picture_of c m).mem (sum_of l (added_of c m))
    survey_added f =
        survey_is ∙ ap (folded_of (picture_of c m) (cost_of c m)) (add_done l (added_of c m) h added_long f)
        ∙ (λ i. survey_ended (record { number = sym (told_none (number_of (picture_of c m).answer) 0 refl) i; finished = values_of (picture_of c m).answer; reads = cost_of c m }) (picture_of c m).mem (sum_of l (added_of c m)))

    pub survey_full : Passed l (added_of c m) 37
        → survey_of c m l ≡ survey_ended (record { number = 15; finished = values_of (picture_of c m).answer; reads = cost_of c m }) (picture_of c m).mem l
    survey_full p =
        survey_is ∙ ap (folded_of (picture_of c m) (cost_of c m)) (add_passed l (added_of c m) h added_long p)
        ∙ (λ i. survey_ended (record { number = sym (told_other (number_of (picture_of c m).answer) 15 (λ e. omega arith)) i; finished = values_of (picture_of c m).answer; reads = cost_of c m }) (picture_of c m).mem l)
