-- `inners` meets its contract: an edge a turn.
use Rattle.numbers.specs.Words.{◌-◌, ◌/◌, arith, ◌≡◌, refl, sym, ◌∙◌, ap, length}
use Rattle.deblock.specs.Located.{size_eight, beside_same}
use Rattle.deblock.specs.Deblock.{inners_of}
use Rattle.deblock.specs.DeblockLaws.{turns_none, turns_next, length_turns}
use Rattle.deblock.proofs.squares.inners.Goals as goal

pub overflow_sub-j-end : goal.overflow_sub-j-end
overflow_sub-j-end c = omega (arith, size_eight c.requires.beside.size)

pub loop-j-init : goal.loop-j-init
loop-j-init c = (omega arith, refl, sym (turns_none _ _), sym (turns_none _ _))

pub inner_edge-requires : goal.inner_edge-requires
inner_edge-requires c = let long = length_turns c.args.upright c.args.g c.args.w c.args.x c.args.y c.args.n c.loop-j.j in record { square = rw (c.loop-j.invariant.2, long c.args.p.now) c.requires.square; beside = beside_same (ap length c.loop-j.invariant.2 ∙ long c.args.p.now) (ap length c.loop-j.invariant.3 ∙ long c.args.q.now) c.requires.beside; j_bound = omega (arith, c.loop-j.invariant.1, c.loop-j-test) }

pub loop-j-preserved : goal.loop-j-preserved
loop-j-preserved c = (omega arith, refl, c.inner_edge.ensures.p_after ∙ rw c.loop-j.invariant.2 (turns_next _ _ _), c.inner_edge.ensures.q_after ∙ rw c.loop-j.invariant.3 (turns_next _ _ _))

pub shape_of-p : goal.shape_of-p
shape_of-p c = rw c.loop-j.invariant.2 (length_turns _ _ _ _ _ _ _ _)

pub shape_of-q : goal.shape_of-q
shape_of-q c = rw c.loop-j.invariant.3 (length_turns _ _ _ _ _ _ _ _)

pub returns : goal.returns
unfolding inners_of
returns c = let e : c.loop-j.j ≡ c.args.n / 4 - 1 = omega arith in record { p_after = rw e at c.loop-j.invariant.2; q_after = rw e at c.loop-j.invariant.3 }
