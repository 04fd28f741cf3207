-- `edge` meets its contract: its parts are those of the definition.
use Rattle.planes.specs.Paint.{edge_of}
use Rattle.planes.proofs.edges.edge.Goals as goal

pub returns : goal.returns
unfolding edge_of
returns c = rw (c.near-corner.ensures, c.first_left-left.ensures, c.first_above-above.ensures)
