-- `small_blocks` meets its contract: a sub-block a turn, which lies where it did once it is predicted.
use Rattle.numbers.specs.Words.{ℕ, ◌+◌, zero-add, arith, ◌≡◌, refl, sym, subst, inr, length, get_or, pos, inside}
use Rattle.transform.specs.TransformLaws.{below_next}
use Rattle.planes.specs.PaintLaws.{blocks_none, length_blocks, length_painted}
use Rattle.planes.specs.Places.{Lies, lies_block, sub_lies, not_last}
use Rattle.planes.specs.Pieces.{Fits16}
use Rattle.planes.proofs.Turns.{taken, small_turn}
use Rattle.planes.proofs.blocks.small_blocks.Goals as goal

pub loop-i-init : goal.loop-i-init
loop-i-init c = (omega arith, sym (blocks_none _ _ _ _ _ _ _), λ j h. absurd (omega arith))

pub sub_block-s-requires : goal.sub_block-s-requires
sub_block-s-requires c = record { block_sides = inr refl; i_bound = omega arith; m_bound = (c.requires.square.columns, c.requires.square.wide, c.requires.square.high) }

pub predict_small-requires : goal.predict_small-requires
predict_small-requires c =
    record {
      lies = rw (c.loop-i.invariant.1, length_blocks) (sub_lies (inr refl) (omega arith) c.requires.square c.sub_block-s.ensures);
      x_bound = λ e. omega (arith, not_last c.loop-i.i e, c.requires.square.columns, c.sub_block-s.ensures.across);
    }

pub bounds-c-i : goal.bounds-c-i
bounds-c-i c = omega (arith, c.requires.ready.room)

pub add-requires : goal.add-requires
add-requires c =
    let lies : Lies (length c.loop-i.p) c.args.w c.sub_block-s.result = rw (c.loop-i.invariant.1, length_blocks) (sub_lies (inr refl) (omega arith) c.requires.square c.sub_block-s.ensures) in
    record { block = lies_block {s = c.sub_block-s.result} (rw (c.predict_small.ensures, length_painted) lies); i_bound = omega arith; each = c.requires.ready.near }

pub loop-i-preserved : goal.loop-i-preserved
loop-i-preserved c =
    let lies : Lies (length c.loop-i.p) c.args.w c.sub_block-s.result = rw (c.loop-i.invariant.1, length_blocks) (sub_lies (inr refl) (omega arith) c.requires.square c.sub_block-s.ensures) in
    let dc = taken (get_or c.args.c.now c.loop-i.i (pos 0)) c.add-arg-in-loop-i-2-1.given in (
      omega arith,
      small_turn c.requires.ready _ _ _ c.loop-i.i (omega arith) c.sub_block-s.ensures refl dc.eq c.args.right c.args.modes.now _
          c.loop-i.invariant.1 lies c.predict_small.ensures c.add.ensures.bytes c.add.ensures.p_after,
      below_next (λ (j : ℕ). Fits16 (get_or c.args.c.now (0 + j) (pos 0))) c.loop-i.i (subst (λ (k : ℕ). Fits16 (get_or c.args.c.now k (pos 0))) (sym (zero-add c.loop-i.i)) (inside dc)) c.loop-i.invariant.2,
    )

pub shape_of-p : goal.shape_of-p
shape_of-p c = rw c.loop-i.invariant.1 (length_blocks _ _ _ _ _ _ _ _)

pub returns : goal.returns
returns c = let e : c.loop-i.i ≡ 16 = omega arith in record { p_after = rw e at c.loop-i.invariant.1; first_fit = rw e at c.loop-i.invariant.2 }
