use Rattle.boundary.proofs.tile_numbers.tile_of.Goals as goal

pub returns : goal.returns
returns c = rw (c.eight_spans.ensures, c.reader_of.ensures, c.number.ensures, c.number-2.ensures, c.number-3.ensures, c.number-4.ensures, c.number-5.ensures)
