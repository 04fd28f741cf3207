-- The proofs of what is promised of a survey (request M-110): `survey_answers`, `call_counts`, `add_answers`, `totals`, `full_exactly`, `joins`, `same_record`.
use Rattle.std.specs.Prelude.{◌+◌, ◌*◌, ◌≤◌, ◌<◌, ◌≡◌, ◌∷◌, ◌++◌}
use Rattle.numbers.specs.Words.{ℕ, arith, refl, sym, ◌∙◌, ap, subst, inl, inr, eq_or, List, [], length, get_or, ext_get_or, get_or_constant}
use Rattle.lent.specs.Memory.{Memory}
use Rattle.choices.specs.Choices.{Call, number_of}
use Rattle.picture.specs.Picture.{picture_of, cost_of}
use Rattle.survey.specs.Survey.{sum_to, total_of, added_of, count_limit, Passed, sum_of, Added, add_of, SurveyEnded, survey_of}
use Rattle.survey.specs.TallyLaws.{tallied_answer, tallied_segment, tallied_luma, tallied_chroma, tallied_skip, tallied_inside, tallied_subs, tallied_first, tallied_tokens}
use Rattle.survey.specs.TotalLaws.{InTables, sum_same, sum_plus, sum_constant, answers_total, segments_total, lumas_total, chromas_total, skips_total, insides_total, smalls_at, subs_total_is}
use Rattle.survey.specs.SurveyLaws.{fits_or, add_long, add_other, add_done, add_passed, sum_long, sum_at_lem, survey_long, survey_added, survey_full}
use Rattle.promises.specs.Grey.{done}
use Rattle.promises.specs.SurveyHeldLaws.{number_below, in_tables}
use Rattle.promises.specs.Survey.{SurveyAnswers, CallCounts, AddAnswers, PictureCall, counts_at, finished_by, smalls_by, first_by, tokens_by, sum_over, fold_from, NeverFull, none, next, zeros, record_of_of, Totals, FullExactly, Joins, Reordered, nothing, kept, swapped, twice, SameRecord}

-- ---- one call
module _ (c : Call) (m : Memory) (l : List ℕ) where
  abbrev number : ℕ
  number = (survey_of c m l).answer.number

  number_full : length l ≡ 37 → Passed l (added_of c m) 37 → number ≡ 15
  number_full h p = ap (λ (e : SurveyEnded). e.answer.number) (survey_full c m l h p)

  number_added : length l ≡ 37 → ((i : ℕ) → i < 37 → get_or l i 0 + get_or (added_of c m) i 0 ≤ count_limit) → number < 8
  number_added h f = subst (λ (n : ℕ). n < 8) (sym (ap (λ (e : SurveyEnded). e.answer.number) (survey_added c m l h f))) (number_below c m)

  number_room : (length l ≡ 37 → ⊥) → number ≡ 9
  number_room h = sym (ap (λ (e : SurveyEnded). e.answer.number) (survey_long c m l h))

  pub survey_answers : SurveyAnswers c m l
  survey_answers = record {
    room = λ h. sym (survey_long c m l h);
    full = survey_full c m l;
    added = survey_added c m l;
    room_only = λ e h. elim (fits_or l (added_of c m) 37) [ inl f ↦ omega (arith, number_added h f) | inr p ↦ omega (arith, number_full h p) ];
    full_only = λ e. elim (eq_or (length l) 37) [
      | inr n ↦ absurd (omega (arith, number_room n))
      | inl h ↦ elim (fits_or l (added_of c m) 37) [ inl f ↦ absurd (omega (arith, number_added h f)) | inr p ↦ (h, p) ]
    ];
  }

pub call_counts : (c : Call) (m : Memory) → CallCounts c m
call_counts c m =
    let e = picture_of c m in
    let n = number_of e.answer in
    let r = cost_of c m in
    record {
      answers = tallied_answer n (done c m) r e.mem.modes e.mem.strengths;
      segments = tallied_segment n (done c m) r e.mem.modes e.mem.strengths;
      lumas = tallied_luma n (done c m) r e.mem.modes e.mem.strengths;
      chromas = tallied_chroma n (done c m) r e.mem.modes e.mem.strengths;
      skips = tallied_skip n (done c m) r e.mem.modes e.mem.strengths;
      insides = tallied_inside n (done c m) r e.mem.modes e.mem.strengths;
      sub_blocks_lem = tallied_subs n (done c m) r e.mem.modes e.mem.strengths;
      first = tallied_first n (done c m) r e.mem.modes e.mem.strengths;
      tokens = tallied_tokens n (done c m) r e.mem.modes e.mem.strengths;
    }

module _ (l a : List ℕ) where
  sum_number : {n : ℕ} {k : List ℕ} → add_of l a ≡ record { number = n; counts = k } → (add_of l a).number ≡ n
  sum_number e = ap (λ (d : Added). d.number) e

  pub add_answers : AddAnswers l a
  add_answers = record {
    room = λ h. sym (add_long l a h);
    room_other = λ h. sym (add_other l a h);
    full = add_passed l a;
    added = add_done l a;
    room_only = λ e h k. elim (fits_or l a 37) [ inl f ↦ omega (arith, sum_number (add_done l a h k f)) | inr p ↦ omega (arith, sum_number (add_passed l a h k p)) ];
    full_only = λ e. elim (eq_or (length l) 37) [
      | inr n ↦ absurd (omega (arith, sum_number (sym (add_long l a n))))
      | inl h ↦ elim (eq_or (length a) 37) [
        | inr n ↦ absurd (omega (arith, sum_number (sym (add_other l a n))))
        | inl k ↦ elim (fits_or l a 37) [ inl f ↦ absurd (omega (arith, sum_number (add_done l a h k f))) | inr p ↦ (h, k, p) ]
      ]
    ];
  }

-- ---- sums over calls
over_same : (f g : PictureCall → ℕ) → ((x : PictureCall) → f x ≡ g x) → (xs : List PictureCall) → sum_over f xs ≡ sum_over g xs
unfolding sum_over
over_same f g h [] = refl
over_same f g h (x ∷ xs) = λ i. h x i + over_same f g h xs i

over_append : (f : PictureCall → ℕ) (xs ys : List PictureCall) → sum_over f (xs ++ ys) ≡ sum_over f xs + sum_over f ys
unfolding sum_over
over_append f [] ys = omega arith
over_append f (x ∷ xs) ys = omega (arith, over_append f xs ys)

over_ones : (xs : List PictureCall) → sum_over (λ x. 1) xs ≡ length xs
unfolding sum_over
over_ones [] = refl
over_ones (x ∷ xs) = omega (arith, over_ones xs)

over_times : (n : ℕ) (f : PictureCall → ℕ) (xs : List PictureCall) → sum_over (λ x. n * f x) xs ≡ n * sum_over f xs
unfolding sum_over
over_times n f [] = omega arith
over_times n f (x ∷ xs) = omega (arith, over_times n f xs)

-- in either order
over_swap : (n : ℕ) (f : ℕ → PictureCall → ℕ) (xs : List PictureCall) → sum_to n (λ i. sum_over (f i) xs) ≡ sum_over (λ x. sum_to n (λ i. f i x)) xs
unfolding sum_over
over_swap n f [] = sum_constant n 0 ∙ omega arith
over_swap n f (x ∷ xs) = sum_plus n (λ i. f i x) (λ i. sum_over (f i) xs) ∙ ap (λ (k : ℕ). sum_to n (λ i. f i x) + k) (over_swap n f xs)

over_reordered : (f : PictureCall → ℕ) {xs ys : List PictureCall} → Reordered xs ys → sum_over f xs ≡ sum_over f ys
unfolding sum_over
over_reordered f nothing = refl
over_reordered f (kept {x} r) = ap (λ (n : ℕ). f x + n) (over_reordered f r)
over_reordered f swapped = omega arith
over_reordered f (twice r s) = over_reordered f r ∙ over_reordered f s

-- ---- calls folded
-- the record is what was there and what the calls count, and nothing passes
record Folded (l : List ℕ) (xs : List PictureCall) : Type 0 where
  pub long : length (fold_from l xs) ≡ 37
  pub each : (i : ℕ) → i < 37 → get_or (fold_from l xs) i 0 ≡ get_or l i 0 + sum_over (counts_at i) xs
  pub most : (i : ℕ) → i < 37 → get_or l i 0 ≤ count_limit → get_or l i 0 + sum_over (counts_at i) xs ≤ count_limit

module _ (l : List ℕ) (x : PictureCall) (h : length l ≡ 37) (f : (i : ℕ) → i < 37 → get_or l i 0 + counts_at i x ≤ count_limit) where
  abbrev after : List ℕ
  after = (survey_of x.call x.lent l).counts

  after_is : after ≡ sum_of l (added_of x.call x.lent)
  after_is = ap (λ (e : SurveyEnded). e.counts) (survey_added x.call x.lent l h f)

  after_long : length after ≡ 37
  after_long = ap length after_is ∙ sum_long l (added_of x.call x.lent)

  after_at_lem : (i : ℕ) → i < 37 → get_or after i 0 ≡ get_or l i 0 + counts_at i x
  after_at_lem i k = ap (λ (l : List ℕ). get_or l i 0) after_is ∙ sum_at_lem l (added_of x.call x.lent) i k

-- what one call that is not answered 15 says
fits_of : (l : List ℕ) (x : PictureCall) → length l ≡ 37 → ((survey_of x.call x.lent l).answer.number ≡ 15 → ⊥) → (i : ℕ) → i < 37 → get_or l i 0 + counts_at i x ≤ count_limit
fits_of l x h n = elim (fits_or l (added_of x.call x.lent) 37) [ inl f ↦ f | inr p ↦ absurd (n (number_full x.call x.lent l h p)) ]

folded : {l : List ℕ} {xs : List PictureCall} → length l ≡ 37 → NeverFull l xs → Folded l xs
unfolding sum_over fold_from
folded {l} h none = record { long = h; each = λ i k. omega arith; most = λ i k g. omega arith }
folded {l} h (next {x} {xs} n r) =
    let f : (i : ℕ) → i < 37 → get_or l i 0 + counts_at i x ≤ count_limit = fits_of l x h n in
    let g = folded (after_long l x h f) r in
    record {
      long = g.long;
      each = λ i k. omega (arith, g.each i k, after_at_lem l x h f i k);
      most = λ i k q. omega (arith, after_at_lem l x h f i k, f i k, g.most i k (omega (arith, after_at_lem l x h f i k, f i k)));
    }

never_of : (xs : List PictureCall) (l : List ℕ) → length l ≡ 37 → ((i : ℕ) → i < 37 → get_or l i 0 + sum_over (counts_at i) xs ≤ count_limit) → NeverFull l xs
unfolding sum_over
never_of [] l h f = none
never_of (x ∷ xs) l h f =
    let g : (i : ℕ) → i < 37 → get_or l i 0 + counts_at i x ≤ count_limit = λ i k. omega (arith, f i k) in
    next (λ (e : number x.call x.lent l ≡ 15). omega (arith, number_added x.call x.lent l h g)) (never_of xs (after l x h g) (after_long l x h g) (λ i k. omega (arith, f i k, after_at_lem l x h g i k)))

-- ---- from zeros
zero_at : (i : ℕ) → get_or zeros i 0 ≡ 0
zero_at i = get_or_constant {A = ℕ} 37 i 0

pub full_exactly : (xs : List PictureCall) → FullExactly xs
full_exactly xs = record {
  never = λ f. never_of xs zeros refl (λ i k. omega (arith, f i k, zero_at i));
  only = λ n i k. omega (arith, (folded refl n).most i k (omega (arith, zero_at i)), zero_at i);
}

module _ (xs : List PictureCall) (n : NeverFull zeros xs) where
  record_long : length (record_of_of xs) ≡ 37
  record_long = (folded refl n).long

  record_at_lem : (i : ℕ) → i < 37 → get_or (record_of_of xs) i 0 ≡ sum_over (counts_at i) xs
  record_at_lem i k = omega (arith, (folded refl n).each i k, zero_at i)

-- ---- totals
module _ (xs : List PictureCall) (n : NeverFull zeros xs) where
  -- a table's total, call by call
  total_over : (table rows : ℕ) (f : PictureCall → ℕ) → table + rows ≤ 37 → ((x : PictureCall) → total_of table rows (added_of x.call x.lent) ≡ f x) → total_of table rows (record_of_of xs) ≡ sum_over f xs
  total_over table rows f h g =
      sum_same rows (λ y. get_or (record_of_of xs) (table + y) 0) (λ y. sum_over (counts_at (table + y)) xs) (λ y k. record_at_lem xs n (table + y) (omega arith))
      ∙ over_swap rows (λ y. counts_at (table + y)) xs ∙ over_same (λ x. total_of table rows (added_of x.call x.lent)) f g xs

  place_over : (i : ℕ) (f : PictureCall → ℕ) → i < 37 → ((x : PictureCall) → counts_at i x ≡ f x) → get_or (record_of_of xs) i 0 ≡ sum_over f xs
  place_over i f h g = record_at_lem xs n i h ∙ over_same (counts_at i) f g xs

  fine : (x : PictureCall) → InTables (number_of (picture_of x.call x.lent).answer) (finished_by x) (picture_of x.call x.lent).mem.modes (picture_of x.call x.lent).mem.strengths
  fine x = in_tables x.call x.lent x.bytes

  pub totals : Totals xs
  totals = record {
    answers = total_over 0 8 (λ x. 1) (omega arith) (λ x. answers_total _ _ (cost_of x.call x.lent) _ _ (fine x)) ∙ over_ones xs;
    segments = total_over 8 4 finished_by (omega arith) (λ x. segments_total _ _ (cost_of x.call x.lent) _ _ (fine x));
    lumas = total_over 12 5 finished_by (omega arith) (λ x. lumas_total _ _ (cost_of x.call x.lent) _ _ (fine x));
    chromas = total_over 17 4 finished_by (omega arith) (λ x. chromas_total _ _ (cost_of x.call x.lent) _ _ (fine x));
    skips = total_over 21 2 finished_by (omega arith) (λ x. skips_total _ _ (cost_of x.call x.lent) _ _ (fine x));
    insides = total_over 23 2 finished_by (omega arith) (λ x. insides_total _ _ (cost_of x.call x.lent) _ _ (fine x));
    sub_blocks_lem = total_over 25 10 (λ x. 16 * smalls_by x) (omega arith) (λ x. subs_total_is _ _ (cost_of x.call x.lent) _ _ (fine x)) ∙ over_times 16 smalls_by xs;
    small = place_over 16 smalls_by (omega arith) (λ x. smalls_at _ _ (cost_of x.call x.lent) _ _ (fine x));
    first = place_over 35 first_by (omega arith) (λ x. tallied_first _ _ (cost_of x.call x.lent) _ _);
    tokens = place_over 36 tokens_by (omega arith) (λ x. tallied_tokens _ _ (cost_of x.call x.lent) _ _);
    long = record_long xs n;
    each = record_at_lem xs n;
  }

-- ---- two deliveries
pub joins : (xs ys : List PictureCall) → Joins xs ys
joins xs ys = record {
  joined = join;
  parts = λ n. (left n, right n);
  never = λ a b c. elim (fits_or (record_of_of xs) (record_of_of ys) 37) [
    | inl f ↦ (full_exactly (xs ++ ys)).never (λ i k. omega (arith, over_append (counts_at i) xs ys, record_at_lem xs a i k, record_at_lem ys b i k, f i k))
    | inr p ↦ absurd (c (ap (λ (d : Added). d.number) (add_passed (record_of_of xs) (record_of_of ys) (record_long xs a) (record_long ys b) p)))
  ];
}
  where
    left : NeverFull zeros (xs ++ ys) → NeverFull zeros xs
    left n = (full_exactly xs).never (λ i k. omega (arith, over_append (counts_at i) xs ys, (full_exactly (xs ++ ys)).only n i k))

    right : NeverFull zeros (xs ++ ys) → NeverFull zeros ys
    right n = (full_exactly ys).never (λ i k. omega (arith, over_append (counts_at i) xs ys, (full_exactly (xs ++ ys)).only n i k))

    join : NeverFull zeros (xs ++ ys) → add_of (record_of_of xs) (record_of_of ys) ≡ record { number = 0; counts = record_of_of (xs ++ ys) }
    join n =
        let a : NeverFull zeros xs = left n in
        let b : NeverFull zeros ys = right n in
        add_done (record_of_of xs) (record_of_of ys) (record_long xs a) (record_long ys b)
        (λ i k. omega (arith, over_append (counts_at i) xs ys, record_at_lem xs a i k, record_at_lem ys b i k, (full_exactly (xs ++ ys)).only n i k))
        ∙ ap (λ (l : List ℕ). record { number = 0; counts = l })
        (ext_get_or 0 (sum_of (record_of_of xs) (record_of_of ys)) (record_of_of (xs ++ ys)) (sum_long (record_of_of xs) (record_of_of ys) ∙ sym (record_long (xs ++ ys) n))
        (λ i k. let q : i < 37 = rw (sum_long (record_of_of xs) (record_of_of ys)) at k in
        omega (arith, sum_at_lem (record_of_of xs) (record_of_of ys) i q, record_at_lem xs a i q, record_at_lem ys b i q, record_at_lem (xs ++ ys) n i q, over_append (counts_at i) xs ys)))

-- ---- the order does not matter
pub same_record : {xs ys : List PictureCall} → Reordered xs ys → SameRecord xs ys
same_record {xs} {ys} r = record { never = other; same = same }
  where
    other : NeverFull zeros xs → NeverFull zeros ys
    other n = (full_exactly ys).never (λ i k. omega (arith, over_reordered (counts_at i) r, (full_exactly xs).only n i k))

    same : NeverFull zeros xs → record_of_of xs ≡ record_of_of ys
    same n = ext_get_or 0 (record_of_of xs) (record_of_of ys) (record_long xs n ∙ sym (record_long ys (other n)))
        (λ i k. let q : i < 37 = rw (record_long xs n) at k in
        record_at_lem xs n i q ∙ over_reordered (counts_at i) r ∙ sym (record_at_lem ys (other n) i q))
