-- `nearest` meets its contract in each branch.
use Rattle.numbers.specs.Words.{pos, negsuc, Know, num, round, fit, rounded, any, lt_is, ge_left, ge_right, clamp_z, w16, w32}
use Rattle.transform.proofs.lanes.nearest.Statement.{statement}
use Rattle.transform.proofs.lanes.nearest.Tie as tie

returns : tie.Need-returns-then-v-ltminus32513
unfolding clamp_z
returns c = rw (lt_is (any w32 c.ranges.v) (num (negsuc 32512)) c.if-v-ltminus32513.true)

returns-2 : tie.Need-returns-then-v-gt32512
unfolding clamp_z
returns-2 c =
    let k = any w32 c.ranges.v in
    rw (lt_is k (num (negsuc 32512)) c.if-v-ltminus32513.false, lt_is (num (pos 32512)) k c.if-v-gt32512.true)

-- past both tests
kept : (c : tie.Else-v-gt32512) → Know (round w32 c.args.v) c.args.v (negsuc 32512) (pos 32512)
kept c =
    let k = any w32 c.ranges.v in
    ge_right (num (pos 32512)) (ge_left k (num (negsuc 32512)) c.if-v-ltminus32513.false) c.if-v-gt32512.false

returns-3 : tie.Need-returns
unfolding clamp_z
returns-3 c =
    let k = any w32 c.ranges.v in
    rw (lt_is k (num (negsuc 32512)) c.if-v-ltminus32513.false, lt_is (num (pos 32512)) k c.if-v-gt32512.false) (rounded w16 (kept c) tt).eq

pub nearest_spec : {M : Type 1} → statement M
nearest_spec = tie.close (tie.spec returns returns-2 (λ c. fit (kept c) tt) returns-3)
