use Rattle.column.proofs.unpack.Goals as goal

pub returns : goal.returns
returns c = rw (c.unpack_flags.ensures, c.half-2.ensures, c.unpack_modes.ensures, c.half.ensures)
