-- The proofs of what is promised of the cockpit profile (Profile.antt).
use Rattle.std.specs.Prelude.{◌+◌, ◌*◌, ◌/◌, ◌≤◌, ◌<◌, ◌≡◌, ◌&&◌, ◌⊎◌}
use Rattle.numbers.specs.Words.{ℕ, zero, suc, arith, refl, sym, ◌∙◌, ap, ap₂, subst, Bool, true, false, inl, inr, ⊎_elim, lit<, lt_or, eq_or, never, not_so, both_left, both_right, both_true, bit_of, List, length, get_or, Ok, Err}
use Rattle.reader.specs.ReadingLaws.{Bytes}
use Rattle.lent.specs.Memory.{record_at, records_in, mode_width, is_on, Memory, sizes_of}
use Rattle.lent.specs.RecordsLaws.{record_byte}
use Rattle.lent.specs.MacroblocksLaws.{mode_read}
use Rattle.lent.specs.declared.macroblocks.ModeRecord.{ModeRecord}
use Rattle.tile.specs.Tile.{Sides, Counted}
use Rattle.choices.specs.Choices.{Call, refusal_of, named, refusal_number_of, number_of, values_of}
use Rattle.choices.specs.ChoicesLaws.{refusal_named}
use Rattle.picture.specs.Picture.{Picture, State, Ended, picture_of}
use Rattle.profile.specs.declared.Misfit.TheVariants as P
use Rattle.profile.specs.Profile.{Profiled, size_fits_of, count_fits_of, segments_fit_of, sharpness_fits_of, tile_rules_of, both_at, first_both_of, judged_of, decoded_of, ProfileEnded, profiled, profile_of, profile_number_of}
use Rattle.profile.specs.ProfileLaws.{tile_size, tile_count, tile_fits, header_segments, header_sharpness, header_fits, judged_named, judged_fits, decoded_stopped, decoded_whole, profile_early, profile_refused, profile_late, profile_decoded}
use Rattle.profile.specs.RulesLaws.{size_holds, size_passes, count_holds, count_passes, segments_holds, segments_passes, sharpness_holds, sharpness_passes, first_is, first_before, first_none, first_at}
use Rattle.promises.specs.Refusals.{Bad, Fine, number, Refused, refused_changes_nothing}
use Rattle.promises.specs.Reached.{Ending, whole, modes_out, tokens_out}
use Rattle.promises.specs.Stops.{macroblocks, stops_at}
use Rattle.promises.specs.KeptLaws.{sound, live_reached}
use Rattle.promises.specs.Grey.{Made, done, FinishedOrGrey}
use Rattle.promises.specs.GreyLaws.{finished_or_grey}
use Rattle.promises.specs.Profile.{Square, Few, Plain, Soft, Whole, Both, Fitting, Judged, fails_1, fails_2, refused, fails_3, fails_4, fails_5, fails_6, fits, Judges, YesExactly, Refusing, FitsWhole}

-- ---- the tests and the facts
module _ (t : Call) where
  square : size_fits_of t.tile.width t.tile.height ≡ true → Square t
  square e = let f = size_holds t.tile.width t.tile.height e in record { width = f.0; height = f.1 }

  square_passes : Square t → size_fits_of t.tile.width t.tile.height ≡ true
  square_passes s = size_passes t.tile.width t.tile.height s.width s.height

  plain : segments_fit_of t.header ≡ true → Plain t
  plain e = let f = segments_holds t.header e in record { segments = f.0; map = f.1 }

  plain_passes : Plain t → segments_fit_of t.header ≡ true
  plain_passes s = segments_passes t.header s.segments s.map

  -- what fits the first two rules is never refused by 1 or 2
  sides : Square t → Sides t.tile.width t.tile.height
  sides s =
      let w = s.width in
      let h = s.height in
      record {
        width = record { least = omega arith; most = omega arith; whole = omega arith };
        height = record { least = omega arith; most = omega arith; whole = omega arith };
      }

  counted : Few t → Counted t.tile.count
  counted (inl e) = record { least = omega arith; most = omega arith }
  counted (inr (inl e)) = record { least = omega arith; most = omega arith }
  counted (inr (inr e)) = record { least = omega arith; most = omega arith }

-- a refusal that is neither 1 nor 2
late : (n : ℕ) → (n ≡ 1 → ⊥) → (n ≡ 2 → ⊥) → 1 ≤ n → n ≤ 5 → (n ≡ 3) ⊎ (n ≡ 4) ⊎ (n ≡ 5)
late zero a b l m = absurd (omega arith)
late (suc zero) a b l m = absurd (a refl)
late (suc (suc zero)) a b l m = absurd (b refl)
late (suc (suc (suc zero))) a b l m = inl refl
late (suc (suc (suc (suc zero)))) a b l m = inr (inl refl)
late (suc (suc (suc (suc (suc zero))))) a b l m = inr (inr refl)
late (suc (suc (suc (suc (suc (suc n)))))) a b l m = absurd (omega arith)

-- ---- the picture call's answer
module _ (t : Call) (m : Memory) where
  -- it is 0 only where no argument is refused
  whole_fine : Whole t m → Fine t m
  whole_fine w = ⊎_elim (λ e. e) (λ b. absurd (omega (arith, (refused_changes_nothing t m b).least, w))) (eq_or (refusal_of t (sizes_of m)) 0)

  all_done : Fine t m → Whole t m → (picture_of t m).answer ≡ Ok (macroblocks t)
  all_done e w = go (stops_at t m e).one w
    where
      go : {P : Picture} {S : State} {n : ℕ} {o : Ended} → Ending P S n o → number_of o.answer ≡ 0 → o.answer ≡ Ok n
      go (whole r) f = refl
      go (modes_out l r h) f = absurd (omega arith)
      go (tokens_out l r h j) f = absurd (omega arith)

-- ---- the mode record of a macroblock that is made
is_on_bit : (n : ℕ) (b : Bool) → n ≡ bit_of b → is_on n ≡ b
is_on_bit n true e = rw e
is_on_bit n false e = rw e

module _ (t : Call) (m : Memory) (b : Bytes t.bytes) (e : Fine t m) where
  grey : FinishedOrGrey t m
  grey = finished_or_grey t m b e

  modes_long : done t m ≤ macroblocks t → length (picture_of t m).mem.modes ≡ mode_width * macroblocks t
  modes_long h = ap (λ (x : Memory). length x.modes) grey.memory ∙ (live_reached (sound t m b e) h grey.reached).modes

  -- rule 6 reads in it what was made
  both_is : (k : ℕ) → k < macroblocks t → done t m ≤ macroblocks t → (x : Made t m k) → both_at (picture_of t m).mem.modes k ≡ x.made.modes.skip && x.made.modes.small
  both_is k h d x =
      let mem = (picture_of t m).mem.modes in
      let r : k < records_in mode_width mem = omega (arith, modes_long d) in
      let skip : is_on (get_or (record_at mode_width mem k) 1 0) ≡ x.made.modes.skip = is_on_bit _ _ (record_byte mode_width mem k 1 (lit< tt) ∙ x.kinds 1 (lit< tt)) in
      let small : is_on (get_or (record_at mode_width mem k) 2 0) ≡ x.made.modes.small = is_on_bit _ _ (record_byte mode_width mem k 2 (lit< tt) ∙ x.kinds 2 (lit< tt)) in
      ap (λ (o : ModeRecord). o.kinds.skip && o.kinds.small) (mode_read mem k r) ∙ ap₂ ◌&&◌ skip small

  module _ (w : Whole t m) where
    finished : done t m ≡ macroblocks t
    finished = ap values_of (all_done t m e w)

    both : (k : ℕ) → k < macroblocks t → both_at (picture_of t m).mem.modes k ≡ true → Both t m k
    both k h f =
        let x = grey.before k (omega (arith, finished)) in
        let g : x.made.modes.skip && x.made.modes.small ≡ true = sym (both_is k h (omega (arith, finished)) x) ∙ f in
        record { made = x; skipped = both_left x.made.modes.skip _ g; small = both_right x.made.modes.skip _ g }

    both_passes : (k : ℕ) → k < macroblocks t → Both t m k → both_at (picture_of t m).mem.modes k ≡ true
    both_passes k h x = both_is k h (omega (arith, finished)) x.made ∙ both_true x.skipped x.small

    not_both : (k : ℕ) → k < macroblocks t → (Both t m k → ⊥) → both_at (picture_of t m).mem.modes k ≡ false
    not_both k h n = sym (not_so _ (λ f. n (both k h f)))

-- ---- the call
module _ (t : Call) (m : Memory) where
  abbrev modes : List ℕ
  modes = (picture_of t m).mem.modes

  abbrev first : ℕ
  first = first_both_of (macroblocks t) 0 modes

  early_square : size_fits_of t.tile.width t.tile.height ≡ false → profiled (Err (P.Rule 1)) m ≡ profile_of t m
  early_square e = profile_early t m (tile_size t.tile e) (λ z. omega arith)

  module _ (s : Square t) where
    early_count : count_fits_of t.tile.count ≡ false → profiled (Err (P.Rule 2)) m ≡ profile_of t m
    early_count e = profile_early t m (tile_count t.tile (square_passes t s) e) (λ z. omega arith)

    module _ (f : Few t) where
      tile_passes : 0 ≡ tile_rules_of t.tile
      tile_passes = tile_fits t.tile (square_passes t s) (count_passes t.tile.count f)

      by_refusal : Bad t m → profiled (Err (P.Refused (named (number t m)))) m ≡ profile_of t m
      by_refusal b =
          let q : number t m ≡ refusal_of t (sizes_of m) = ap (λ (o : Ended). number_of o.answer) (refused_changes_nothing t m b).is ∙ refusal_named t (sizes_of m) b in
          ap (λ (n : ℕ). profiled (Err (P.Refused (named n))) m) q ∙ profile_refused t m tile_passes refl refl b

      refusal_late : Bad t m → (number t m ≡ 3) ⊎ (number t m ≡ 4) ⊎ (number t m ≡ 5)
      refusal_late b =
          let r = refused_changes_nothing t m b in
          late (number t m) (λ e. r.one e (sides t s)) (λ e. (r.two e).1 (counted t f)) r.least r.most

      module _ (e : Fine t m) where
        late_segments : segments_fit_of t.header ≡ false → profiled (Err (P.Rule 3)) m ≡ profile_of t m
        late_segments g = profile_late t m tile_passes refl (sym e) refl (header_segments t.header g) (λ z. omega arith)

        module _ (p : Plain t) where
          late_sharpness : sharpness_fits_of t.header ≡ false → profiled (Err (P.Rule 4)) m ≡ profile_of t m
          late_sharpness g = profile_late t m tile_passes refl (sym e) refl (header_sharpness t.header (plain_passes t p) g) (λ z. omega arith)

          module _ (o : Soft t) where
            by_picture : {r : Profiled} → r ≡ decoded_of (picture_of t m).answer modes → profiled r (picture_of t m).mem ≡ profile_of t m
            by_picture = profile_decoded t m tile_passes refl (sym e) refl (header_fits t.header (plain_passes t p) (sharpness_passes t.header o)) refl refl

            stopped : (Whole t m → ⊥) → profiled (Err (P.Rule 5)) (picture_of t m).mem ≡ profile_of t m
            stopped n = by_picture (decoded_stopped (picture_of t m).answer modes refl n)

            module _ (w : Whole t m) where
              whole_judged : {r : Profiled} → r ≡ judged_of (macroblocks t) modes → profiled r (picture_of t m).mem ≡ profile_of t m
              whole_judged q = by_picture (decoded_whole (picture_of t m).answer modes refl w (sym (ap values_of (all_done t m e w))) q)

              at_first : {k : ℕ} → k ≡ first → k < macroblocks t → profiled (Err (P.Macroblock k)) (picture_of t m).mem ≡ profile_of t m
              at_first {k} g h = whole_judged (judged_named (macroblocks t) modes k g h)

              at_none : macroblocks t ≤ first → profiled (Ok tt) (picture_of t m).mem ≡ profile_of t m
              at_none h = whole_judged (judged_fits (macroblocks t) modes first refl h)

-- the third check and those behind it, by name and by number
named_late : (n : ℕ) → (n ≡ 3) ⊎ (n ≡ 4) ⊎ (n ≡ 5) → (refusal_number_of (named n) ≡ 3) ⊎ (refusal_number_of (named n) ≡ 4) ⊎ (refusal_number_of (named n) ≡ 5)
named_late n (inl e) = inl (ap (λ (k : ℕ). refusal_number_of (named k)) e)
named_late n (inr (inl e)) = inr (inl (ap (λ (k : ℕ). refusal_number_of (named k)) e))
named_late n (inr (inr e)) = inr (inr (ap (λ (k : ℕ). refusal_number_of (named k)) e))

-- ---- what an answer says
module _ (t : Call) (m : Memory) (b : Bytes t.bytes) where
  module _ (s : Square t) (f : Few t) (e : Fine t m) (p : Plain t) (o : Soft t) (w : Whole t m) where
    -- none below n is both
    below : (n : ℕ) → n ≤ macroblocks t → n ≤ first t m → (j : ℕ) → j < n → Both t m j → ⊥
    below n h l j i x = never (both_passes t m b e w j (omega arith) x) (first_before (modes t m) (macroblocks t) 0 j (omega arith) (omega arith))

    by_first : (first t m < macroblocks t) ⊎ (macroblocks t ≤ first t m) → Judged t m (profile_of t m)
    by_first (inl h) = subst (Judged t m) (at_first t m s f e p o w refl h)
        (fails_6 s f p o w h (both t m b e w (first t m) h (first_is (modes t m) (macroblocks t) 0 (omega arith))) (below (first t m) (omega arith) (omega arith)))
    by_first (inr h) = subst (Judged t m) (at_none t m s f e p o w h)
        (fits (record { square = s; few = f; plain = p; soft = o; whole = w; neither = below (macroblocks t) (omega arith) h }))

    by_whole : Judged t m (profile_of t m)
    by_whole = by_first (lt_or (first t m) (macroblocks t))

  module _ (s : Square t) (f : Few t) (e : Fine t m) where
    by_picture_answer : (p : Plain t) (o : Soft t) → (number t m ≡ 0) ⊎ (number t m ≡ 0 → ⊥) → Judged t m (profile_of t m)
    by_picture_answer p o (inl w) = by_whole s f e p o w
    by_picture_answer p o (inr n) = subst (Judged t m) (stopped t m s f e p o n) (fails_5 s f e p o n)

    by_sharpness : (p : Plain t) (x : Bool) → sharpness_fits_of t.header ≡ x → Judged t m (profile_of t m)
    by_sharpness p true g = by_picture_answer p (sharpness_holds t.header g) (eq_or (number t m) 0)
    by_sharpness p false g = subst (Judged t m) (late_sharpness t m s f e p g) (fails_4 s f e p (λ o. never (sharpness_passes t.header o) g))

    by_segments : (x : Bool) → segments_fit_of t.header ≡ x → Judged t m (profile_of t m)
    by_segments true g = by_sharpness (plain t g) (sharpness_fits_of t.header) refl
    by_segments false g = subst (Judged t m) (late_segments t m s f e g) (fails_3 s f e (λ p. never (plain_passes t p) g))

  by_arguments : Square t → Few t → (refusal_of t (sizes_of m) ≡ 0) ⊎ (refusal_of t (sizes_of m) ≡ 0 → ⊥) → Judged t m (profile_of t m)
  by_arguments s f (inl e) = by_segments s f e (segments_fit_of t.header) refl
  by_arguments s f (inr n) = subst (Judged t m) (by_refusal t m s f n) (refused s f (refusal_late t m s f n))

  by_count : Square t → (x : Bool) → count_fits_of t.tile.count ≡ x → Judged t m (profile_of t m)
  by_count s true g = by_arguments s (count_holds t.tile.count g) (eq_or (refusal_of t (sizes_of m)) 0)
  by_count s false g = subst (Judged t m) (early_count t m s g) (fails_2 s (λ f. never (count_passes t.tile.count f) g))

  by_size : (x : Bool) → size_fits_of t.tile.width t.tile.height ≡ x → Judged t m (profile_of t m)
  by_size true g = by_count (square t g) (count_fits_of t.tile.count) refl
  by_size false g = subst (Judged t m) (early_square t m g) (fails_1 (λ s. never (square_passes t s) g))

  -- THE PROMISE: what the answer says, and when it is given
  pub profile_judges : Judges t m
  profile_judges = record {
    one = by_size (size_fits_of t.tile.width t.tile.height) refl;
    rule_1 = λ n. sym (early_square t m (fails (λ e. n (square t e))));
    rule_2 = λ s n. sym (early_count t m s (fails (λ e. n (count_holds t.tile.count e))));
    refusal = λ s f n. sym (by_refusal t m s f n);
    rule_3 = λ s f e n. sym (late_segments t m s f e (fails (λ g. n (plain t g))));
    rule_4 = λ s f e p n. sym (late_sharpness t m s f e p (fails (λ g. n (sharpness_holds t.header g))));
    rule_5 = λ s f e p o n. sym (stopped t m s f e p o n);
    rule_6 = λ s f p o w {k} h x n.
        let e = whole_fine t m w in
        sym (at_first t m s f e p o w (sym (first_at (modes t m) (macroblocks t) k h (both_passes t m b e w k h x) (λ j i. not_both t m b e w j (omega arith) (n j i)))) h);
    yes = λ q.
        let e = whole_fine t m q.whole in
        let z : first t m ≡ 0 + macroblocks t = first_none (modes t m) (macroblocks t) 0 (λ j a i. not_both t m b e q.whole j (omega arith) (q.neither j (omega arith))) in
        sym (at_none t m q.square q.few e q.plain q.soft q.whole (omega (arith, z)));
  }
    where
      fails : {x : Bool} → (x ≡ true → ⊥) → x ≡ false
      fails {x} n = sym (not_so x n)

  -- THE PROMISE: yes exactly when all six rules hold
  pub yes_exactly : YesExactly t m
  yes_exactly = record {
    only = only profile_judges.one;
    when = λ q. ap (λ (E : ProfileEnded). E.answer) (profile_judges.yes q);
  }
    where
      -- an answer that is not yes says so by its numbers
      told : Profiled → ℕ
      told (Ok u) = 0
      told (Err x) = 1

      other : {A : Type 0} {q : Profiled} → told q ≡ 1 → q ≡ Ok tt → A
      other {q = q} e g = absurd (omega (arith, e, ap told g))

      only : {E : ProfileEnded} → Judged t m E → E.answer ≡ Ok tt → Fitting t m
      only (fits q) g = q
      only (fails_1 a) g = other refl g
      only (fails_2 a c) g = other refl g
      only (refused a c d) g = other refl g
      only (fails_3 a c d e) g = other refl g
      only (fails_4 a c d e f) g = other refl g
      only (fails_5 a c d e f h) g = other refl g
      only (fails_6 a c d e f h i j) g = other refl g

  -- THE PROMISE: 1 and 2 are never given
  pub profile_refusing : Refusing t m
  profile_refusing = go profile_judges.one
    where
      go : {E : ProfileEnded} → Judged t m E → (profile_number_of E.answer ≡ 0) ⊎ (profile_number_of E.answer ≡ 3) ⊎ (profile_number_of E.answer ≡ 4) ⊎ (profile_number_of E.answer ≡ 5)
      go (fails_1 a) = inl refl
      go (fails_2 a c) = inl refl
      go (refused a c d) = inr (named_late (number t m) d)
      go (fails_3 a c d e) = inl refl
      go (fails_4 a c d e f) = inl refl
      go (fails_5 a c d e f h) = inl refl
      go (fails_6 a c d e f h i j) = inl refl
      go (fits q) = inl refl

  -- THE PROMISE: what fits is decoded whole
  pub fits_whole : Fitting t m → FitsWhole t m
  fits_whole q =
      let e = whole_fine t m q.whole in
      record {
        fine = e;
        answer = all_done t m e q.whole ∙ ap₂ (λ (w h : ℕ). Ok (w / 16 * (h / 16))) q.square.width q.square.height;
        memory = ap (λ (E : ProfileEnded). E.mem) (profile_judges.yes q);
      }
