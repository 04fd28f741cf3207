-- The kernel's tests and its rules apart, for many positions side by side: first whether a rule acts, then what it does, told whether it
-- does. Together they are `filter_of` (StraightLaws.antt).
use Rattle.std.specs.Prelude.{◌+◌, ◌*◌, ◌/◌, ◌&&◌, ◌||◌}
use Rattle.numbers.specs.Words.{ℕ, max, Bool, not, cond, ltb, List}
use Rattle.filter.specs.declared.answers.Rule.{Rule}
use Rattle.filter.specs.declared.answers.Rule.TheVariants.{Simple, HighVariance, MacroblockEdge, InnerEdge}
use Rattle.filter.specs.Kernel.{Samples, samples_across, apart, within_limit_of, rough_at, high_variance_of, no_steps, steps_of, moved_of}

-- Whether a rule acts: the edge test holds, and the six pairs are smooth where the filter is not the simple one.
unfoldable pub acts_of : Samples → (simple : Bool) (limit inner : ℕ) → Bool
acts_of e simple limit inner = within_limit_of e limit && (simple || not (ltb (rough_at e inner) 6))

-- The same in bytes. Half of what the edge test asks (section 15.2, 5014): it holds where this is at most the limit.
unfoldable pub half_step_of : Samples → ℕ
half_step_of e = 2 * apart e.p0 e.q0 + apart e.p1 e.q1 / 2

-- How far two neighbours lie apart at most, of the six pairs.
unfoldable pub roughest : Samples → ℕ
roughest e =
    max (max (max (max (max (apart e.p3 e.p2) (apart e.p2 e.p1)) (apart e.p1 e.p0)) (apart e.q3 e.q2))
    (apart e.q2 e.q1)) (apart e.q1 e.q0)

-- The rule that acts where one does.
unfoldable pub acting_rule : Samples → (simple edge : Bool) (threshold : ℕ) → Rule
acting_rule e simple edge threshold = cond simple Simple (cond (high_variance_of e threshold) HighVariance (cond edge MacroblockEdge InnerEdge))

-- The eight samples after it, where `acts` says that it acts.
unfoldable pub straight_of : List ℕ → (simple edge : Bool) (threshold : ℕ) (acts : Bool) → List ℕ
straight_of e simple edge threshold acts =
    let s = samples_across e in
    moved_of e (cond acts (steps_of (acting_rule s simple edge threshold) s) no_steps)
