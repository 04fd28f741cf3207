use Rattle.numbers.specs.Words.{ℕ, ◌+◌, add-one, arith, ◌≡◌, refl, Bool, ◌&&◌, leb, List, get_or, all_below}
use Rattle.residual.proofs.contexts.flags_fine.Goals as goal

allowed : (flags : List ℕ) (i : ℕ) {b : Bool} → b ≡ all_below i (λ (k : ℕ). leb (get_or flags k 0) 1) → leb (get_or flags i 0) 1 && b ≡ all_below (i + 1) (λ (k : ℕ). leb (get_or flags k 0) 1)
allowed flags i e = rw (e, add-one)

pub loop-flag-init : goal.loop-flag-init
loop-flag-init c = (omega arith, refl)

pub loop-flag-preserved : goal.loop-flag-preserved
loop-flag-preserved c = (omega arith, allowed c.args.flags c.loop-flag.flag-index c.loop-flag.invariant.1)

pub returns : goal.returns
returns c = let e : c.loop-flag.flag-index ≡ 9 = omega arith in rw e at c.loop-flag.invariant.1
