-- Laws of explanations (request M-105): a rule is named exactly where its reason holds, and what is told of a sample is what the kernel does.
use Rattle.std.specs.Prelude.{◌≤◌, ◌<◌, ◌≡◌, ◌∷◌, ◌+ℤ◌}
use Rattle.numbers.specs.Words.{ℕ, zero, suc, arith, refl, sym, ◌∙◌, ap, Bool, true, false, inl, inr, lt_or, never, List, [], length, get_or, get_or-eq_default, ℤ, pos, negsuc, Each, clip_z}
use Rattle.filter.specs.Kernel.{Rule, EdgeFailed, Rough, Simple, HighVariance, MacroblockEdge, InnerEdge, Samples, samples_across, within_limit_of, first_false, smooth, rough_at, high_variance_of, rule_of, steps_of, moved_of, filter_of}
use Rattle.filter.specs.KernelLaws.{rule_edge_failed, rule_simple, rule_rough, rule_smooth, filter_at, steps_in}
use Rattle.filter.specs.Explain.{told_of, explain_of, smooth_pairs, smooth_pair, SmoothBefore, Reason, named}

-- ---- the first test that fails
-- every test before it holds, and where it is one of the tests it fails; no other test does both
pub first_before : (bs : List Bool) (i : ℕ) → i < first_false bs → get_or bs i true ≡ true
unfolding first_false
first_before [] i h = absurd (omega arith)
first_before (true ∷ bs) zero h = refl
first_before (true ∷ bs) (suc i) h = first_before bs i (omega arith)
first_before (false ∷ bs) i h = absurd (omega arith)

pub first_fails : (bs : List Bool) → first_false bs < length bs → get_or bs (first_false bs) true ≡ false
unfolding first_false
first_fails [] h = absurd (omega arith)
first_fails (true ∷ bs) h = first_fails bs (omega arith)
first_fails (false ∷ bs) h = refl

pub first_only : (bs : List Bool) (n : ℕ) → ((i : ℕ) → i < n → get_or bs i true ≡ true) → get_or bs n true ≡ false → first_false bs ≡ n
unfolding first_false
first_only [] n h e = absurd (never refl e)
first_only (true ∷ bs) zero h e = absurd (never refl e)
first_only (true ∷ bs) (suc n) h e = ap suc (first_only bs n (λ i k. h (suc i) (omega arith)) e)
first_only (false ∷ bs) zero h e = refl
first_only (false ∷ bs) (suc n) h e = absurd (never (h 0 (omega arith)) refl)

pub first_all : (bs : List Bool) → ((i : ℕ) → i < length bs → get_or bs i true ≡ true) → length bs ≤ first_false bs
unfolding first_false
first_all [] h = omega arith
first_all (true ∷ bs) h = let k = first_all bs (λ i k. h (suc i) (omega arith)) in omega arith
first_all (false ∷ bs) h = absurd (never (h 0 (omega arith)) refl)

pub false_below : (bs : List Bool) (n : ℕ) → get_or bs n true ≡ false → n < length bs
false_below bs n f = elim (lt_or n (length bs)) [
  | inl h ↦ h
  | inr h ↦ absurd (never (get_or-eq_default bs true h) f)
]

-- ---- the pairs
module _ (e : Samples) (inner : ℕ) where
  pub smooth_before : SmoothBefore e inner (rough_at e inner)
  unfolding smooth_pairs rough_at
  smooth_before = first_before (smooth_pairs e inner)

  pub rough_fails : rough_at e inner < 6 → smooth_pair e inner (rough_at e inner) ≡ false
  unfolding smooth_pairs rough_at
  rough_fails h = first_fails (smooth_pairs e inner) h

  pub rough_only : (pair : ℕ) → SmoothBefore e inner pair → smooth_pair e inner pair ≡ false → rough_at e inner ≡ pair
  unfolding smooth_pairs rough_at
  rough_only pair h f = first_only (smooth_pairs e inner) pair h f

  pub rough_none : SmoothBefore e inner 6 → 6 ≤ rough_at e inner
  unfolding smooth_pairs rough_at
  rough_none h = first_all (smooth_pairs e inner) h

  pub pair_below : (pair : ℕ) → smooth_pair e inner pair ≡ false → pair < 6
  unfolding smooth_pairs
  pair_below pair f = false_below (smooth_pairs e inner) pair f

-- ---- the reason of a rule holds exactly where the kernel's definition goes by the rule
module _ (e : Samples) (simple edge : Bool) (limit inner threshold : ℕ) where
  pub reason_only : (r : Rule) → Reason e simple edge limit inner threshold r → rule_of e simple edge limit inner threshold ≡ r
  reason_only EdgeFailed w = rule_edge_failed e simple edge limit inner threshold w
  reason_only Simple (w, s) = rule_simple e simple edge limit inner threshold w s
  reason_only (Rough pair) (w, s, b, f) =
      let p = rough_only e inner pair b f in
      rule_rough e simple edge limit inner threshold w s (rw p (pair_below e inner pair f)) ∙ ap Rough p
  reason_only HighVariance (w, s, b, h) = rule_smooth e simple edge limit inner threshold w s (rough_none e inner b) ∙ rw h
  reason_only MacroblockEdge (w, s, b, h, m) = rule_smooth e simple edge limit inner threshold w s (rough_none e inner b) ∙ rw (h, m)
  reason_only InnerEdge (w, s, b, h, m) = rule_smooth e simple edge limit inner threshold w s (rough_none e inner b) ∙ rw (h, m)

  abbrev Holds : Type 0
  Holds = Reason e simple edge limit inner threshold (rule_of e simple edge limit inner threshold)

  holds : (r : Rule) → Reason e simple edge limit inner threshold r → Holds
  holds r h = rw (reason_only r h) h

  pub reason_holds : Reason e simple edge limit inner threshold (rule_of e simple edge limit inner threshold)
  reason_holds = by_edge (within_limit_of e limit) refl
    where
      by_variance : within_limit_of e limit ≡ true → simple ≡ false → SmoothBefore e inner 6 → (h m : Bool) → high_variance_of e threshold ≡ h → edge ≡ m → Holds
      by_variance w s b true m p q = holds HighVariance (w, s, b, p)
      by_variance w s b false true p q = holds MacroblockEdge (w, s, b, p, q)
      by_variance w s b false false p q = holds InnerEdge (w, s, b, p, q)

      by_kind : within_limit_of e limit ≡ true → (t : Bool) → simple ≡ t → Holds
      by_kind w true s = holds Simple (w, s)
      by_kind w false s = elim (lt_or (rough_at e inner) 6) [
        | inl r ↦ holds (Rough (rough_at e inner)) (w, s, smooth_before e inner, rough_fails e inner r)
        | inr r ↦ by_variance w s (λ i k. smooth_before e inner i (omega arith)) (high_variance_of e threshold) edge refl refl
      ]

      by_edge : (t : Bool) → within_limit_of e limit ≡ t → Holds
      by_edge true w = by_kind w simple refl
      by_edge false w = holds EdgeFailed w

-- ---- what is told
module _ (e : List ℕ) (simple edge : Bool) (limit inner threshold : ℕ) where
  -- as the code finds it
  pub told : {r : Rule} {after : List ℕ} {steps : List ℤ} → r ≡ rule_of (samples_across e) simple edge limit inner threshold
      → after ≡ moved_of e (steps_of r (samples_across e)) → steps ≡ steps_of r (samples_across e)
      → record { rule = r; before = e; after = after; steps = steps } ≡ explain_of e simple edge limit inner threshold
  unfolding explain_of told_of
  told {r} p q s = (λ i. record { rule = r; before = e; after = q i; steps = s i }) ∙ ap (told_of e) p

  -- the rule that is named is the one by which the kernel's definition goes
  pub named_rule : (explain_of e simple edge limit inner threshold).rule ≡ rule_of (samples_across e) simple edge limit inner threshold
  unfolding explain_of told_of
  named_rule = refl

  -- a rule is named exactly where its reason holds: no other tests led to it, and these lead to no other
  pub named_reason : (r : Rule)
      → ((explain_of e simple edge limit inner threshold).rule ≡ r → Reason (samples_across e) simple edge limit inner threshold r)
      × (Reason (samples_across e) simple edge limit inner threshold r → (explain_of e simple edge limit inner threshold).rule ≡ r)
  named_reason r = (
    λ n. rw (sym named_rule ∙ n) at (reason_holds (samples_across e) simple edge limit inner threshold),
    λ h. named_rule ∙ reason_only (samples_across e) simple edge limit inner threshold r h,
  )

  -- the samples before are those that were given, and those after are the kernel's
  pub told_before : (explain_of e simple edge limit inner threshold).before ≡ e
  unfolding explain_of told_of
  told_before = refl

  pub told_after : (explain_of e simple edge limit inner threshold).after ≡ filter_of e simple edge limit inner threshold
  unfolding explain_of told_of filter_of
  told_after = refl

  -- the steps are those of the rule that is named
  pub told_steps : (explain_of e simple edge limit inner threshold).steps ≡ steps_of (explain_of e simple edge limit inner threshold).rule (samples_across e)
  unfolding explain_of told_of
  told_steps = refl

  -- each sample after is the sample before with its step added, clipped to a byte
  pub told_moves : (k : ℕ) → k < 8
      → get_or (explain_of e simple edge limit inner threshold).after k 0
      ≡ clip_z (pos (get_or (explain_of e simple edge limit inner threshold).before k 0) +ℤ get_or (explain_of e simple edge limit inner threshold).steps k (pos 0))
  unfolding explain_of told_of filter_of
  told_moves k h = filter_at e simple edge limit inner threshold k h

  -- and a step lies in -127..127
  pub told_in : Each (negsuc 126) (pos 127) (explain_of e simple edge limit inner threshold).steps
  unfolding explain_of told_of
  told_in = steps_in (rule_of (samples_across e) simple edge limit inner threshold) (samples_across e)

-- ---- every reason is named somewhere
pub every_reason : named true true 90 90 90 90 110 110 110 111 ∷ named false true 90 90 90 90 110 110 110 111
    ∷ named false true 80 90 90 90 90 90 90 80 ∷ named false true 80 80 90 90 90 90 80 80 ∷ named false true 80 80 80 90 90 80 80 80
    ∷ named false true 90 90 90 90 90 90 90 80 ∷ named false true 90 90 90 90 90 90 80 80 ∷ named false true 90 90 90 90 90 80 80 80
    ∷ named true true 80 90 90 90 90 90 90 80 ∷ named false true 90 90 90 93 96 96 96 96
    ∷ named false true 90 90 90 90 96 96 96 96 ∷ named false false 90 90 90 90 96 96 96 96 ∷ []
    ≡ EdgeFailed ∷ EdgeFailed ∷ Rough 0 ∷ Rough 1 ∷ Rough 2 ∷ Rough 3 ∷ Rough 4 ∷ Rough 5 ∷ Simple ∷ HighVariance ∷ MacroblockEdge ∷ InnerEdge ∷ []
unfolding explain_of told_of rule_of within_limit_of rough_at first_false smooth high_variance_of
every_reason = refl
