-- `turn` meets its contract: a block a turn.
use Rattle.numbers.specs.Words.{◌-◌, ◌≤◌, arith, ◌≡◌, sym, ◌∙◌}
use Rattle.transform.specs.Pieces.{lane_of, turned_at}
use Rattle.transform.specs.TransformLaws.{SmallIn, first_asks, second_asks}
use Rattle.transform.specs.Lanes.{turned_to}
use Rattle.transform.specs.LanesLaws.{turned_none, turned_stages, lane_small}
use Rattle.transform.proofs.lanes.turn.Statement.{statement}
use Rattle.transform.proofs.lanes.turn.Tie as tie

abbrev invariant_loop : tie.invariant-loop-i
invariant_loop c n t₀ i₀ t i = (i ≤ n) × (t ≡ turned_to (turned_at n c) t₀ i)

abbrev decreases_loop : tie.decreases-loop-i
decreases_loop c n t₀ i₀ t i = n - i

fit : (c : tie.After-lane invariant_loop decreases_loop) → SmallIn (lane_of c.args.n c.args.c.now c.loop-i.i)
fit c = lane_small _ _ c.requires.1

loop-again : tie.Need-loop-i-preserved invariant_loop decreases_loop
loop-again c = (omega arith, c.put_lane.ensures ∙ turned_stages _ _ _ c.loop-i.i c.loop-i.invariant.1 c.lane.ensures c.first_pass.ensures c.second_pass.ensures)

returns : tie.Need-returns invariant_loop decreases_loop
returns c = let e : c.loop-i.i ≡ c.args.n = omega arith in rw e at c.loop-i.invariant.1

pub turn_spec : {M : Type 1} → statement M
turn_spec = tie.close (tie.spec invariant_loop decreases_loop (λ c. (omega arith, sym (turned_none _ _))) (λ c κs. omega arith) (λ c κs. first_asks (fit c) c.lane.ensures) (λ c κs. second_asks (fit c.before) c.lane.ensures c.first_pass.ensures) (λ c κs. omega arith) (λ c. omega arith) (λ c. omega arith) loop-again returns)
