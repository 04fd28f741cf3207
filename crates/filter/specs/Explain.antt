-- Why a sample moved (request M-105): the rule by which the kernel went, and for each of eight samples its value before and after, and the
-- step that the rule added to it before the sum was clipped.
use Rattle.std.specs.Prelude.{◌<◌, ◌≡◌, ◌∷◌}
use Rattle.numbers.specs.Words.{ℕ, Bool, true, false, List, [], get_or}
use Rattle.filter.specs.declared.explain.Explanation.{Explanation}
use Rattle.filter.specs.Kernel.{Rule, EdgeFailed, Rough, Simple, HighVariance, MacroblockEdge, InnerEdge, Samples, samples_across, within_limit_of, smooth, high_variance_of, rule_of, steps_of, moved_of}

-- What a rule does to eight samples, told.
unfoldable pub told_of : List ℕ → Rule → Explanation
told_of e r =
    record { rule = r; before = e; after = moved_of e (steps_of r (samples_across e)); steps = steps_of r (samples_across e) }

-- The call: the rule that acts.
unfoldable pub explain_of : List ℕ → (simple edge : Bool) (limit inner threshold : ℕ) → Explanation
explain_of e simple edge limit inner threshold = told_of e (rule_of (samples_across e) simple edge limit inner threshold)

-- ---- what each reason says of the samples

-- Which of the six pairs of neighbours are smooth, in the order in which they are tried: p3-p2, p2-p1, p1-p0, then q3-q2, q2-q1, q1-q0.
unfoldable pub smooth_pairs : Samples → (inner : ℕ) → List Bool
smooth_pairs e inner =
    smooth inner e.p3 e.p2 ∷ smooth inner e.p2 e.p1 ∷ smooth inner e.p1 e.p0
    ∷ smooth inner e.q3 e.q2 ∷ smooth inner e.q2 e.q1 ∷ smooth inner e.q1 e.q0 ∷ []

-- Whether pair 0..5 is smooth; past those it counts as smooth.
abbrev pub smooth_pair : Samples → (inner pair : ℕ) → Bool
smooth_pair e inner pair = get_or (smooth_pairs e inner) pair true

-- Every pair before this one is smooth.
abbrev pub SmoothBefore : Samples → (inner pair : ℕ) → Type 0
SmoothBefore e inner pair = (i : ℕ) → i < pair → smooth_pair e inner i ≡ true

-- The tests that a rule stands for, in the order in which the filter makes them.
abbrev pub Reason : Samples → (simple edge : Bool) (limit inner threshold : ℕ) → Rule → Type 0
Reason e simple edge limit inner threshold EdgeFailed = within_limit_of e limit ≡ false
Reason e simple edge limit inner threshold Simple = (within_limit_of e limit ≡ true) × (simple ≡ true)
Reason e simple edge limit inner threshold (Rough pair) =
    (within_limit_of e limit ≡ true) × (simple ≡ false) × SmoothBefore e inner pair × (smooth_pair e inner pair ≡ false)
Reason e simple edge limit inner threshold HighVariance =
    (within_limit_of e limit ≡ true) × (simple ≡ false) × SmoothBefore e inner 6 × (high_variance_of e threshold ≡ true)
Reason e simple edge limit inner threshold MacroblockEdge =
    (within_limit_of e limit ≡ true) × (simple ≡ false) × SmoothBefore e inner 6 × (high_variance_of e threshold ≡ false) × (edge ≡ true)
Reason e simple edge limit inner threshold InnerEdge =
    (within_limit_of e limit ≡ true) × (simple ≡ false) × SmoothBefore e inner 6 × (high_variance_of e threshold ≡ false) × (edge ≡ false)

-- The rule that is named for eight samples with limit 40, inner 5 and threshold 2.
abbrev pub named : (simple edge : Bool) → (p3 p2 p1 p0 q0 q1 q2 q3 : ℕ) → Rule
named simple edge p3 p2 p1 p0 q0 q1 q2 q3 =
    (explain_of (p3 ∷ p2 ∷ p1 ∷ p0 ∷ q0 ∷ q1 ∷ q2 ∷ q3 ∷ []) simple edge 40 5 2).rule
