use Rattle.numbers.specs.Words.{ℕ, ◌+◌, ◌≤◌, arith, ◌≡◌, sym, ap}
use Rattle.wide.specs.WideRuns.{reads_as}
use Rattle.coefficients.specs.Block.{categories, bases, magnitude}
use Rattle.residual.proofs.fast.coded_large.Goals as goal

-- what no arm took is 11
past : {t k : ℕ} → k ≤ t → (t ≡ k → ⊥) → k + 1 ≤ t
past l n = omega arith

last : {t : ℕ} → (6 ≤ t) × (t ≤ 11) → (((((Unit {0} × (t ≡ 6 → ⊥)) × (t ≡ 7 → ⊥)) × (t ≡ 8 → ⊥)) × (t ≡ 9 → ⊥)) × (t ≡ 10 → ⊥)) → t ≡ 11
last r n =
    let eleven = past (past (past (past (past r.0 n.0.0.0.0.1) n.0.0.0.1) n.0.0.1) n.0.1) n.1 in
    omega (arith, eleven, r.1)

pub returns-in-6 : goal.returns-in-6
unfolding magnitude categories bases
returns-in-6 c = (reads_as c.args.s.now 0 64 (ap magnitude (sym c.in-6.is)) c.coded_category.ensures.0, c.coded_category.ensures.1)

pub returns-in-7 : goal.returns-in-7
unfolding magnitude categories bases
returns-in-7 c = (reads_as c.args.s.now 0 64 (ap magnitude (sym c.in-7.is)) c.coded_category-in-7.ensures.0, c.coded_category-in-7.ensures.1)

pub returns-in-8 : goal.returns-in-8
unfolding magnitude categories bases
returns-in-8 c = (reads_as c.args.s.now 0 64 (ap magnitude (sym c.in-8.is)) c.coded_category-in-8.ensures.0, c.coded_category-in-8.ensures.1)

pub returns-in-9 : goal.returns-in-9
unfolding magnitude categories bases
returns-in-9 c = (reads_as c.args.s.now 0 64 (ap magnitude (sym c.in-9.is)) c.coded_category-in-9.ensures.0, c.coded_category-in-9.ensures.1)

pub returns-in-10 : goal.returns-in-10
unfolding magnitude categories bases
returns-in-10 c = (reads_as c.args.s.now 0 64 (ap magnitude (sym c.in-10.is)) c.coded_category-in-10.ensures.0, c.coded_category-in-10.ensures.1)

pub returns-in_default : goal.returns-in_default
unfolding magnitude categories bases
returns-in_default c = (reads_as c.args.s.now 0 64 (ap magnitude (sym (last c.requires.le_token c.in_default.in_default-own.rest))) c.coded_category-in_default.ensures.0, c.coded_category-in_default.ensures.1)
