-- `add_blocks` meets its contract: a sub-block a turn.
use Rattle.numbers.specs.Words.{ℕ, ◌+◌, ◌*◌, ◌<◌, arith, ◌≡◌, refl, sym, length, get_or, pos, inside}
use Rattle.transform.specs.TransformLaws.{below_next}
use Rattle.planes.specs.PaintLaws.{blocks_none, length_blocks}
use Rattle.planes.specs.Places.{Lies, sides_square, lies_block, sub_lies}
use Rattle.planes.specs.Pieces.{Fits16}
use Rattle.planes.proofs.Turns.{taken, large_turn}
use Rattle.planes.proofs.blocks.add_blocks.Goals as goal

pub overflow_mul-i-end : goal.overflow_mul-i-end
overflow_mul-i-end c = omega (arith, sides_square c.requires.block_sides)

pub loop-i-init : goal.loop-i-init
loop-i-init c = (omega arith, sym (blocks_none _ _ _ _ _ _ _), λ j h. absurd (omega arith))

pub sub_block-s-requires : goal.sub_block-s-requires
sub_block-s-requires c = record { block_sides = c.requires.block_sides; i_bound = omega (arith, c.loop-i-test); m_bound = (c.requires.square.columns, c.requires.square.wide, c.requires.square.high) }

pub overflow_add-b : goal.overflow_add-b
overflow_add-b c = omega (arith, c.requires.ready.few, c.loop-i-test)

pub bounds-coded-b : goal.bounds-coded-b
bounds-coded-b c = omega (arith, c.requires.ready.few, c.loop-i-test)

pub bounds-c-b : goal.bounds-c-b
bounds-c-b c = omega (arith, c.requires.ready.room, c.loop-i-test)

pub add-requires : goal.add-requires
add-requires c =
    let lies : Lies (length c.loop-i.p) c.args.w c.sub_block-s.result = rw (c.loop-i.invariant.1, length_blocks) (sub_lies c.requires.block_sides (omega (arith, c.loop-i-test)) c.requires.square c.sub_block-s.ensures) in
    record { block = lies_block lies; i_bound = omega (arith, c.requires.ready.few, c.loop-i-test); each = c.requires.ready.near }

pub loop-i-preserved : goal.loop-i-preserved
loop-i-preserved c =
    let h : c.loop-i.i < c.args.m * c.args.m = omega (arith, c.loop-i-test) in
    let dc = taken (get_or c.args.c.now (c.args.from + c.loop-i.i) (pos 0)) c.add-arg-in-loop-i-2-1.given in (
      omega arith,
      large_turn c.requires.ready _ _ _ _ c.loop-i.i h c.sub_block-s.ensures (sub_lies c.requires.block_sides h c.requires.square c.sub_block-s.ensures).square.columns refl refl dc.eq _ c.loop-i.invariant.1 c.add.ensures.bytes c.add.ensures.p_after,
      below_next (λ (j : ℕ). Fits16 (get_or c.args.c.now (c.args.from + j) (pos 0))) c.loop-i.i (inside dc) c.loop-i.invariant.2,
    )

pub shape_of-p : goal.shape_of-p
shape_of-p c = rw c.loop-i.invariant.1 (length_blocks _ _ _ _ _ _ _ _)

pub returns : goal.returns
returns c =
    let e : c.loop-i.i ≡ c.args.m * c.args.m = omega arith in
    record { p_after = rw e at c.loop-i.invariant.1; first_fit = rw e at c.loop-i.invariant.2 }
