use Rattle.numbers.specs.Words.{◌*◌, ◌/◌, ◌%◌, ◌<◌, arith, ◌≡◌, sym, ◌∙◌, length-set, placed_none, fit, rounded, there, w16, w32}
use Rattle.residual.specs.SquaresLaws.{lane_from}
use Rattle.residual.specs.ResidualSteps.{stored_next}
use Rattle.residual.proofs.flat.lay.Goals as goal
use Rattle.residual.proofs.flat.lay.Goals.{In-loop-j}

-- the number that a turn lays stands among the blocks
lane : (c : In-loop-j) → (c.loop-j.j % c.args.n < c.args.n) × (c.loop-j.j / c.args.n < 16)
lane c = lane_from c.args.n c.loop-j.j c.requires.n_nonzero.0.0 c.loop-j-test.true

pub loop-j-init : goal.loop-j-init
loop-j-init c = (c.requires.out_len.0, omega arith, sym (placed_none _ _ _))

pub overflow_mul-out : goal.overflow_mul-out
overflow_mul-out c = let l = lane (goal.at.overflow_mul-out c).In-loop-j in omega (arith, l.0, l.1)

pub overflow_add-out : goal.overflow_add-out
overflow_add-out c = let l = lane (goal.at.overflow_add-out c).In-loop-j in omega (arith, l.0, l.1)

pub overflow_add-out-in-loop-j : goal.overflow_add-out-in-loop-j
overflow_add-out-in-loop-j c = let l = lane (goal.at.overflow_add-out-in-loop-j c).In-loop-j in omega (arith, l.0, l.1)

pub offset_bounds-flat-from : goal.offset_bounds-flat-from
offset_bounds-flat-from c = let l = lane (goal.at.offset_bounds-flat-from c).In-loop-j in omega (arith, l.0, l.1)

pub bounds-flat-from : goal.bounds-flat-from
bounds-flat-from c = let l = lane (goal.at.bounds-flat-from c).In-loop-j in omega (arith, l.0, l.1)

pub overflow_cast-out : goal.overflow_cast-out
overflow_cast-out c = fit (there w32 (c.requires.n_nonzero.1.at _) tt) tt

pub loop-j-preserved : goal.loop-j-preserved
loop-j-preserved c = (simp length-set c.loop-j.invariant.0, omega arith, stored_next _ _ _ _ c.loop-j.invariant.2 (rounded w16 (there w32 (c.requires.n_nonzero.1.at _) tt) tt).eq)

pub shape_of-out : goal.shape_of-out
shape_of-out c = c.loop-j.invariant.0 ∙ sym c.requires.out_len.0

pub returns : goal.returns
returns c = let e : c.loop-j.j ≡ 16 * c.args.n = omega arith in rw e at c.loop-j.invariant.2
