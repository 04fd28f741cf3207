use Rattle.numbers.specs.Words.{◌∙◌}
use Rattle.recode.specs.BlockCopies.{parting_start, parting_next, parting_end}
use Rattle.recode.proofs.Bits.{byte_bit}
use Rattle.recode.proofs.block.copy_parts.Goals as goal

pub loop-j-init : goal.loop-j-init
loop-j-init c = parting_start _ _ _ _ _ (c.from-j.ensures ∙ byte_bit _)

pub copy_part-m-requires : goal.copy_part-m-requires
copy_part-m-requires c = record { table_len = c.requires; j_bound = c.loop-j-test.true }

pub loop-j-preserved : goal.loop-j-preserved
loop-j-preserved c = parting_next c.loop-j.invariant c.loop-j-test.true c.copy_part-m.ensures c.copy_part-m.auto.out

pub shape_of-out : goal.shape_of-out
shape_of-out c = c.loop-j.invariant.long

pub returns : goal.returns
returns c = parting_end c.loop-j.invariant c.loop-j-test.false
