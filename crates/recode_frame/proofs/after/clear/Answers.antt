use Rattle.numbers.specs.Words.{arith}
use Rattle.recode_frame.specs.HeaderCopies.{bit_swapped}
use Rattle.recode_frame.proofs.after.clear.Goals as goal

pub returns : goal.returns
returns c = bit_swapped _ c.args.p _ (λ i. (c.shared_slice_known-1.given i).fits) (omega (arith, c.well_formed.0)) c.fill-full.ensures c.bit-b.ensures c.write-written.ensures
