-- `wrap16` meets its contract: with the argument checked, each step fits 64 bits, and the two branches are the source's form of `wrap_z`.
use mathlib.Core.Path.{ap}
use mathlib.Core.List.{List, [], ◌∷◌}
use lib.IntN.{pos, negsuc}
use mir.Syntax.{w32, w64}
use Rattle.std.specs.Prelude.{Some}
use Rattle.numbers.specs.Know.{num, fit, rounded, inside}
use Rattle.numbers.specs.Eval.{E, Var, v, lit, ◌⊕◌, ◌⊖◌, rem, fits, know}
use Rattle.numbers.specs.Hand.{known, any}
use Rattle.numbers.specs.Narrow.{between, between_is, lt_left, ge_left, lt_is}
use Rattle.numbers.specs.Wrap.{wrap16_of}
use Rattle.numbers.specs.WrapLaws.{wrapped_good, wrapped_source}
use Rattle.numbers.proofs.wrap16.Goals as goal

-- the argument, as the two tests bound it
abbrev good : goal.Then-v → Var
good c = known (between (negsuc 999999999) (pos 1000000000) (any w64 c.ranges.v) c.if-v.true)

abbrev ρ : goal.Then-v → List Var
ρ c = good c ∷ []

abbrev u : E
u = rem (v 0 ⊕ lit (pos 4294967296)) 65536

-- u, with what the test says of it: below 32768, and not below
abbrev small : goal.Then-u-lt32768 → Var
small c = known (lt_left (know w64 (ρ c.before) u tt) (num (pos 32768)) c.if-u-lt32768.true)

abbrev large : goal.Else-u-lt32768 → Var
large c = known (ge_left (know w64 (ρ c.before) u tt) (num (pos 32768)) c.if-u-lt32768.false)

abbrev less : goal.Else-u-lt32768 → Var
less c = known (know w64 (large c ∷ []) (v 0 ⊖ lit (pos 65536)) tt)

pub overflow_add-u : goal.overflow_add-u
overflow_add-u c = fits w64 (ρ c) (v 0 ⊕ lit (pos 4294967296)) tt

pub nonzero_rem-u : goal.nonzero_rem-u
nonzero_rem-u c = fits w64 (ρ c) u tt

pub overflow_cast-result : goal.overflow_cast-result
overflow_cast-result c = fit (small c).is tt

pub overflow_sub-result : goal.overflow_sub-result
overflow_sub-result c = fits w64 (large c ∷ []) (v 0 ⊖ lit (pos 65536)) tt

pub overflow_cast-result-else-u-lt32768 : goal.overflow_cast-result-else-u-lt32768
overflow_cast-result-else-u-lt32768 c = fit (less c).is tt

pub returns-then-u-lt32768 : goal.returns-then-u-lt32768
returns-then-u-lt32768 c =
    let i = inside (good c.before).is in
    rw (wrapped_good i, wrapped_source i)
    (simp (lt_is (small c).is (num (pos 32768)) c.if-u-lt32768.true) (ap Some (rounded w32 (small c).is tt).eq))

pub returns-else-u-lt32768 : goal.returns-else-u-lt32768
returns-else-u-lt32768 c =
    let i = inside (good c.before).is in
    rw (wrapped_good i, wrapped_source i)
    (simp (lt_is (large c).is (num (pos 32768)) c.if-u-lt32768.false) (ap Some (rounded w32 (less c).is tt).eq))

pub returns-else-v : goal.returns-else-v
unfolding wrap16_of
returns-else-v c = simp (between_is (negsuc 999999999) (pos 1000000000) (any w64 c.ranges.v) c.if-v.false)
