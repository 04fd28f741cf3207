-- `block` meets its contract: the array is filled, place by place, with what was read.
use Rattle.numbers.specs.Words.{ℕ, ◌+◌, ◌-◌, ◌*◌, ◌<◌, arith, refl, Filled, filled_none, filled_next, filled_all, ℤ, pos, negsuc, In, Know, round, fit, rounded, inside, any, w16, w32}
use Rattle.transform.specs.Pieces.{lane_of}
use Rattle.transform.specs.Transform.{at}
use Rattle.transform.specs.TransformLaws.{below_next}
use Rattle.transform.specs.LanesLaws.{lane_below, lane_fits}
use Rattle.transform.proofs.lanes.block.Statement.{statement}
use Rattle.transform.proofs.lanes.block.Tie as tie

abbrev invariant_loop : tie.invariant-loop-k
invariant_loop c n i b₀ k₀ b k = Filled b 16 (λ (j : ℕ). at c (n * j + i)) k × ((j : ℕ) → j < k → In (negsuc 32767) (pos 32767) (at c (n * j + i)))

abbrev decreases_loop : tie.decreases-loop-k
decreases_loop c n i b₀ k₀ b k = 16 - k

-- the place of the number, and what was read there
place : (c : tie.In-loop-k invariant_loop decreases_loop) → c.args.n * c.loop-k.k + c.args.i < 16 * c.args.n
place c = let a = c.args in lane_below a.n a.i c.loop-k.k c.requires.2 (omega arith)

abbrev number : tie.After-b-1 invariant_loop decreases_loop → ℤ
number c = let a = c.args in at a.c.now (a.n * c.loop-k.k + a.i)

read : (c : tie.After-b-1 invariant_loop decreases_loop) → Know (round w16 (number c)) (number c) (negsuc 32767) (pos 32767)
read c = any w16 {z = number c} (record { sfits = c.b-1.given })

loop-again : tie.Need-loop-k-preserved invariant_loop decreases_loop
loop-again c = (filled_next _ (omega (arith, c.loop-k-test)) (rounded w32 (read c) tt).eq c.loop-k.invariant.0, below_next (λ (j : ℕ). In (negsuc 32767) (pos 32767) (at c.args.c.now (c.args.n * j + c.args.i))) c.loop-k.k (inside (read c)) c.loop-k.invariant.1)

returns : tie.Need-returns invariant_loop decreases_loop
unfolding lane_of
returns c = (filled_all (omega (arith, c.loop-k-test)) c.loop-k.invariant.0, lane_fits c.args.n c.args.c.now c.args.i (λ k h. c.loop-k.invariant.1 k (omega (arith, c.loop-k-test))))

pub block_spec : {M : Type 1} → statement M
block_spec = tie.close (tie.spec invariant_loop decreases_loop (λ c. (filled_none _ 16 _ refl, λ j h. absurd (omega arith))) (λ c. omega (arith, place c)) (λ c. omega (arith, place c)) (λ c. omega (arith, place c)) (λ c. omega (arith, place c)) (λ c. fit (read c) tt) (λ c. omega arith) (λ c. omega arith) (λ c. omega arith) (λ c. omega arith) loop-again returns)
