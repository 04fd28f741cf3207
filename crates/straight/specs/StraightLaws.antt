-- Laws of the kernel's tests and rules apart: together they are the filter.
use Rattle.std.specs.Prelude.{◌≡◌, ◌&&◌, ◌||◌}
use Rattle.numbers.specs.Words.{ℕ, refl, sym, ◌∙◌, Bool, true, false, not, cond, ltb, List, length, signed_byte_z}
use Rattle.filter.specs.declared.answers.Rule.TheVariants.{EdgeFailed, Rough, Simple, HighVariance, MacroblockEdge, InnerEdge}
use Rattle.filter.specs.Kernel.{Samples, samples_across, within_limit_of, rough_at, high_variance_of, rule_of, across, tapped, no_steps, common_steps_of, macroblock_steps_of, inner_steps_of, steps_of, moved_of, filter_of}
use Rattle.filter.specs.KernelLaws.{Bytes, moved_none}
use Rattle.straight.specs.Straight.{acts_of, acting_rule, straight_of}

-- THE LAW: told what `acts_of` says, it is the filter
pub straight_filter : (e : List ℕ) (simple edge : Bool) (limit inner threshold : ℕ)
    → straight_of e simple edge threshold (acts_of (samples_across e) simple limit inner) ≡ filter_of e simple edge limit inner threshold
unfolding straight_of acts_of acting_rule filter_of rule_of steps_of
straight_filter e simple edge limit inner threshold =
    let s = samples_across e in
    by (within_limit_of s limit) simple (ltb (rough_at s inner) 6) (high_variance_of s threshold) edge
  where
    by : (w s r h m : Bool)
        → moved_of e (cond (w && (s || not r)) (steps_of (cond s Simple (cond h HighVariance (cond m MacroblockEdge InnerEdge))) (samples_across e)) no_steps)
        ≡ moved_of e (steps_of (cond (not w) EdgeFailed (cond s Simple (cond r (Rough (rough_at (samples_across e) inner)) (cond h HighVariance (cond m MacroblockEdge InnerEdge))))) (samples_across e))
    by false s r h m = refl
    by true true r h m = refl
    by true false true h m = refl
    by true false false true m = refl
    by true false false false true = refl
    by true false false false false = refl

-- the steps by the tests: the simple filter, a macroblock's edge, an inner edge
module _ (e : List ℕ) (simple edge : Bool) (threshold : ℕ) (acts : Bool) where
  abbrev here : Samples
  here = samples_across e

  pub straight_simple : simple ≡ true → moved_of e (cond acts (common_steps_of (tapped here)) no_steps) ≡ straight_of e simple edge threshold acts
  unfolding straight_of acting_rule steps_of
  straight_simple s = rw s

  module _ {high : Bool} (s : simple ≡ false) (v : high ≡ high_variance_of here threshold) where
    pub straight_outer : edge ≡ true → moved_of e (cond acts (cond high (common_steps_of (tapped here)) (macroblock_steps_of (signed_byte_z (tapped here)))) no_steps) ≡ straight_of e simple edge threshold acts
    unfolding straight_of acting_rule steps_of
    straight_outer m = rw (s, m, ← v) (by high)
      where
        by : (h : Bool) → moved_of e (cond acts (cond h (common_steps_of (tapped here)) (macroblock_steps_of (signed_byte_z (tapped here)))) no_steps) ≡ moved_of e (cond acts (steps_of (cond h HighVariance MacroblockEdge) here) no_steps)
        by true = refl
        by false = refl

    pub straight_inner : edge ≡ false → moved_of e (cond acts (cond high (common_steps_of (tapped here)) (inner_steps_of (across here))) no_steps) ≡ straight_of e simple edge threshold acts
    unfolding straight_of acting_rule steps_of
    straight_inner m = rw (s, m, ← v) (by high)
      where
        by : (h : Bool) → moved_of e (cond acts (cond h (common_steps_of (tapped here)) (inner_steps_of (across here))) no_steps) ≡ moved_of e (cond acts (steps_of (cond h HighVariance InnerEdge) here) no_steps)
        by true = refl
        by false = refl

-- where no rule acts, the eight stay
pub acts_none : (e : List ℕ) (simple edge : Bool) (limit inner threshold : ℕ) → length e ≡ 8 → Bytes e
    → acts_of (samples_across e) simple limit inner ≡ false → filter_of e simple edge limit inner threshold ≡ e
unfolding straight_of
acts_none e simple edge limit inner threshold l b a =
    sym (straight_filter e simple edge limit inner threshold) ∙ rw a (moved_none e l b)
