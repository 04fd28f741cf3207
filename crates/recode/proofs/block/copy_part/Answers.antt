use Rattle.numbers.specs.Words.{◌≤◌, arith, ◌∙◌, Bool, eqb, bit_of, bit_small}
use Rattle.recode.specs.BlockCopies.{part_copies}
use Rattle.recode.proofs.Bits.{byte_bit}
use Rattle.recode.proofs.block.copy_part.Goals as goal

bit_most : (b : Bool) → bit_of b ≤ 1
bit_most b = omega (arith, bit_small b)

pub flags_of-x-requires : goal.flags_of-x-requires
flags_of-x-requires c = c.requires.j_bound

pub context_at-requires : goal.context_at-requires
context_at-requires c = (c.flags_of-x.ensures.2, c.flags_of-x.ensures.3)

pub copy_block-b-requires : goal.copy_block-b-requires
copy_block-b-requires c = record { table_len = c.requires.table_len; kind_bound = (c.kind_of-kind.ensures.1, c.context_at.ensures.1, rw (c.from-first.ensures, byte_bit (eqb c.kind_of-kind.result 0)) (bit_most (eqb c.kind_of-kind.result 0))) }

pub flagged-above-requires : goal.flagged-above-requires
flagged-above-requires c = c.flags_of-x.ensures.2

pub flagged-beside-requires : goal.flagged-beside-requires
flagged-beside-requires c = c.flags_of-x.ensures.3

pub returns : goal.returns
returns c = part_copies c.args.table.now c.args.small _ c.args.m _ c.kind_of-kind.result c.context_at.result c.from-first.result c.flags_of-x.result.x c.flags_of-x.result.y c.copy_block-b.result.end _ _ c.copy_block-b.ensures c.context_at.ensures.0 _ _ c.flagged-above.ensures c.flagged-beside.ensures c.args.j c.kind_of-kind.ensures.0 (c.from-first.ensures ∙ byte_bit _) c.flags_of-x.ensures.0 c.flags_of-x.ensures.1
