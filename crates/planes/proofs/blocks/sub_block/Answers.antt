-- `sub_block` meets its contract: a mask and a shift are the rest and the quotient, and the law of the definition keeps each number small.
use Rattle.numbers.specs.Words.{ℕ, ◌+◌, ◌*◌, arith, ap}
use Rattle.planes.specs.Places.{sides_few, sides_bits, cell}
use Rattle.planes.proofs.blocks.sub_block.Goals as goal

pub overflow_sub-column : goal.overflow_sub-column
overflow_sub-column c = (sides_few c.requires.block_sides).0

pub overflow_mul-column : goal.overflow_mul-column
overflow_mul-column c = omega (arith, sides_bits c.args.i c.requires.block_sides, cell c.requires.block_sides c.requires.i_bound, c.requires.m_bound)

pub overflow_add-column : goal.overflow_add-column
overflow_add-column c = omega (arith, sides_bits c.args.i c.requires.block_sides, cell c.requires.block_sides c.requires.i_bound, c.requires.m_bound)

pub overflow_shr-row : goal.overflow_shr-row
overflow_shr-row c = omega (arith, sides_few c.requires.block_sides)

pub overflow_mul-row : goal.overflow_mul-row
overflow_mul-row c = omega (arith, sides_bits c.args.i c.requires.block_sides, cell c.requires.block_sides c.requires.i_bound, c.requires.m_bound)

pub overflow_add-row : goal.overflow_add-row
overflow_add-row c = omega (arith, sides_bits c.args.i c.requires.block_sides, cell c.requires.block_sides c.requires.i_bound, c.requires.m_bound)

pub place-requires : goal.place-requires
place-requires c = omega (arith, sides_bits c.args.i c.requires.block_sides, cell c.requires.block_sides c.requires.i_bound, c.requires.m_bound)

pub returns : goal.returns
returns c =
    let b = sides_bits c.args.i c.requires.block_sides in
    record { across = ap (λ (k : ℕ). c.args.x + 4 * k) b.0; down = ap (λ (k : ℕ). c.args.y + 4 * k) b.1; at = c.place.ensures }
