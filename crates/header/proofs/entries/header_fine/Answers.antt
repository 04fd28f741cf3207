use Rattle.header.specs.Header.{header_of}
use Rattle.header.proofs.entries.header_fine.Goals as goal

pub returns : goal.returns
unfolding header_of
returns c = rw c.entries_fine.ensures
