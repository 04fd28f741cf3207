use Rattle.numbers.specs.Words.{ℕ, ◌-◌, arith, ◌≡◌, ap, true, false, leb-true, bit_of}
use Rattle.recode.proofs.tokens.ample.Goals as goal

never : false ≡ true → ⊥
never e = let z : ◌≡◌ {A = ℕ} 0 1 = ap bit_of e in omega arith

pub returns-then-room-lt4 : goal.returns-then-room-lt4
returns-then-room-lt4 c = λ e. absurd (never e)

pub returns : goal.returns
returns c = λ e. let h = leb-true c.args.most (c.args.room - 4) e in omega (arith, c.if-room-lt4.false, h)
