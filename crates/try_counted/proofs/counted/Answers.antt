use Rattle.reader.specs.ReadingLaws.{first_valid}
use Rattle.try_counted.proofs.counted.Goals as goal

pub leaves-requires : goal.leaves-requires
leaves-requires c = rw c.open-r.ensures (first_valid _ (λ i. (c.shared_slice_known-1.given i).fits))
