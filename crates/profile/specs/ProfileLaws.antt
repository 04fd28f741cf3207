-- The laws of the profile, as the code tries its rules, and what each answer says.
use Rattle.std.specs.Prelude.{◌+◌, ◌≤◌, ◌<◌, ◌≡◌}
use Rattle.numbers.specs.Words.{ℕ, zero, suc, add-one, arith, refl, sym, ◌∙◌, ap, true, false, ltb, le-ltb, lt-ltb, List, ℤ, Ok, Err}
use Rattle.tile.specs.declared.Tile.{Tile}
use Rattle.lent.specs.Memory.{Memory, sizes_of}
use Rattle.choices.specs.Choices.{Call, failed, refusal_of, named, number_of, values_of, Decoded}
use Rattle.picture.specs.Picture.{Ended, picture_of}
use Rattle.profile.specs.declared.Misfit.TheVariants as P
use Rattle.profile.specs.Profile.{Profiled, size_fits_of, count_fits_of, segments_fit_of, sharpness_fits_of, tile_rules_of, header_rules_of, both_at, first_both_of, judged_of, decoded_of, profiled, profile_of}

-- ---- 1 and 2, 3 and 4, as the code tries them
module _ (t : Tile) where
  pub tile_size : size_fits_of t.width t.height ≡ false → 1 ≡ tile_rules_of t
  unfolding tile_rules_of failed
  tile_size a = rw (a, tile_rules_of, failed)

  pub tile_count : size_fits_of t.width t.height ≡ true → count_fits_of t.count ≡ false → 2 ≡ tile_rules_of t
  unfolding tile_rules_of failed
  tile_count a b = rw (a, b, tile_rules_of, failed)

  pub tile_fits : size_fits_of t.width t.height ≡ true → count_fits_of t.count ≡ true → 0 ≡ tile_rules_of t
  unfolding tile_rules_of failed
  tile_fits a b = rw (a, b, tile_rules_of, failed)

module _ (h : List ℤ) where
  pub header_segments : segments_fit_of h ≡ false → 3 ≡ header_rules_of h
  unfolding header_rules_of failed
  header_segments a = rw (a, header_rules_of, failed)

  pub header_sharpness : segments_fit_of h ≡ true → sharpness_fits_of h ≡ false → 4 ≡ header_rules_of h
  unfolding header_rules_of failed
  header_sharpness a b = rw (a, b, header_rules_of, failed)

  pub header_fits : segments_fit_of h ≡ true → sharpness_fits_of h ≡ true → 0 ≡ header_rules_of h
  unfolding header_rules_of failed
  header_fits a b = rw (a, b, header_rules_of, failed)

-- ---- the first macroblock that is both: a loop that has looked at those below k
pub record Looking (modes : List ℕ) (blocks k : ℕ) : Type 0 where
  pub left : ℕ
  pub sum : k + left ≡ blocks
  pub same : first_both_of left k modes ≡ first_both_of blocks 0 modes

module _ (modes : List ℕ) where
  first_here : (n k : ℕ) → both_at modes k ≡ true → k ≡ first_both_of (suc n) k modes
  unfolding first_both_of
  first_here n k e = rw (e, first_both_of)

  first_on : (n k : ℕ) → both_at modes k ≡ false → first_both_of n (suc k) modes ≡ first_both_of (suc n) k modes
  unfolding first_both_of
  first_on n k e = rw (e, first_both_of)

  first_none : (k : ℕ) → k ≡ first_both_of 0 k modes
  unfolding first_both_of
  first_none k = refl

  pub looking_start : (blocks : ℕ) → Looking modes blocks 0
  looking_start blocks = record { left = blocks; sum = omega arith; same = refl }

  module _ (blocks k : ℕ) where
    here : (n : ℕ) → k + n ≡ blocks → k < blocks → both_at modes k ≡ true → first_both_of n k modes ≡ first_both_of blocks 0 modes → k ≡ first_both_of blocks 0 modes
    here zero s h e f = absurd (omega arith)
    here (suc n) s h e f = first_here n k e ∙ f

    on : (n : ℕ) → k + n ≡ blocks → k < blocks → both_at modes k ≡ false → first_both_of n k modes ≡ first_both_of blocks 0 modes → Looking modes blocks (k + 1)
    on zero s h e f = absurd (omega arith)
    on (suc n) s h e f = record { left = n; sum = omega arith; same = ap (λ (j : ℕ). first_both_of n j modes) (add-one k) ∙ first_on n k e ∙ f }

    pub looking_here : Looking modes blocks k → k < blocks → both_at modes k ≡ true → k ≡ first_both_of blocks 0 modes
    looking_here g h e = here g.left g.sum h e g.same

    pub looking_next : Looking modes blocks k → k < blocks → both_at modes k ≡ false → Looking modes blocks (k + 1)
    looking_next g h e = on g.left g.sum h e g.same

    pub looking_end : Looking modes blocks k → blocks ≤ k → k ≡ first_both_of blocks 0 modes
    looking_end g h = let z : g.left ≡ 0 = omega (arith, g.sum) in first_none k ∙ rw z at g.same

pub judged_named : (blocks : ℕ) (modes : List ℕ) (k : ℕ) → k ≡ first_both_of blocks 0 modes → k < blocks → Err (P.Macroblock k) ≡ judged_of blocks modes
unfolding judged_of
judged_named blocks modes k e h =
    let t : ltb (first_both_of blocks 0 modes) blocks ≡ true = rw (← e) (lt-ltb k blocks h) in
    ap (λ (k : ℕ). let r : Profiled = Err (P.Macroblock k) in r) e ∙ rw (t, judged_of)

pub judged_fits : (blocks : ℕ) (modes : List ℕ) (k : ℕ) → k ≡ first_both_of blocks 0 modes → blocks ≤ k → Ok tt ≡ judged_of blocks modes
unfolding judged_of
judged_fits blocks modes k e h =
    let t : ltb (first_both_of blocks 0 modes) blocks ≡ false = rw (← e) (le-ltb k blocks h) in
    rw (t, judged_of)

-- ---- the picture call's answer, by number and count
module _ (answer : Decoded) (modes : List ℕ) where
  stopped : (n : ℕ) → n ≡ number_of answer → (n ≡ 0 → ⊥) → Err (P.Rule 5) ≡ decoded_of answer modes
  unfolding decoded_of
  stopped zero e f = absurd (f refl)
  stopped (suc n) e f = rw (← e, decoded_of)

  pub decoded_stopped : {n : ℕ} → n ≡ number_of answer → (n ≡ 0 → ⊥) → Err (P.Rule 5) ≡ decoded_of answer modes
  decoded_stopped e f = stopped _ e f

  pub decoded_whole : {n k : ℕ} {r : Profiled} → n ≡ number_of answer → n ≡ 0 → k ≡ values_of answer → r ≡ judged_of k modes → r ≡ decoded_of answer modes
  unfolding decoded_of
  decoded_whole e z f q = let y : number_of answer ≡ 0 = sym e ∙ z in q ∙ ap (λ (n : ℕ). judged_of n modes) f ∙ rw (y, decoded_of)

-- ---- the call, as the code goes
module _ (c : Call) (m : Memory) where
  early : (n : ℕ) → n ≡ tile_rules_of c.tile → (n ≡ 0 → ⊥) → profiled (Err (P.Rule n)) m ≡ profile_of c m
  unfolding profile_of
  early zero e f = absurd (f refl)
  early (suc n) e f = rw (← e, profile_of)

  pub profile_early : {n : ℕ} → n ≡ tile_rules_of c.tile → (n ≡ 0 → ⊥) → profiled (Err (P.Rule n)) m ≡ profile_of c m
  profile_early e f = early _ e f

  module _ {a : ℕ} (e : a ≡ tile_rules_of c.tile) (z : a ≡ 0) where
    refused : (n : ℕ) → n ≡ refusal_of c (sizes_of m) → (n ≡ 0 → ⊥) → profiled (Err (P.Refused (named n))) m ≡ profile_of c m
    unfolding profile_of
    refused zero g f = absurd (f refl)
    refused (suc n) g f = let y : tile_rules_of c.tile ≡ 0 = sym e ∙ z in rw (y, ← g, profile_of)

    pub profile_refused : {n : ℕ} → n ≡ refusal_of c (sizes_of m) → (n ≡ 0 → ⊥) → profiled (Err (P.Refused (named n))) m ≡ profile_of c m
    profile_refused g f = refused _ g f

    module _ {b : ℕ} (g : b ≡ refusal_of c (sizes_of m)) (y : b ≡ 0) where
      late : (n : ℕ) → n ≡ header_rules_of c.header → (n ≡ 0 → ⊥) → profiled (Err (P.Rule n)) m ≡ profile_of c m
      unfolding profile_of
      late zero h f = absurd (f refl)
      late (suc n) h f =
          let x : tile_rules_of c.tile ≡ 0 = sym e ∙ z in
          let w : refusal_of c (sizes_of m) ≡ 0 = sym g ∙ y in
          rw (x, w, ← h, profile_of)

      pub profile_late : {n : ℕ} → n ≡ header_rules_of c.header → (n ≡ 0 → ⊥) → profiled (Err (P.Rule n)) m ≡ profile_of c m
      profile_late h f = late _ h f

      pub profile_decoded : {n : ℕ} → n ≡ header_rules_of c.header → n ≡ 0 → {E : Ended} {r : Profiled} → E ≡ picture_of c m → r ≡ decoded_of E.answer E.mem.modes → profiled r E.mem ≡ profile_of c m
      unfolding profile_of
      profile_decoded h x {E} q s =
          let v : tile_rules_of c.tile ≡ 0 = sym e ∙ z in
          let w : refusal_of c (sizes_of m) ≡ 0 = sym g ∙ y in
          let u : header_rules_of c.header ≡ 0 = sym h ∙ x in
          ap (λ (r : Profiled). profiled r E.mem) s ∙ ap (λ (E : Ended). profiled (decoded_of E.answer E.mem.modes) E.mem) q ∙ rw (v, w, u, profile_of)
