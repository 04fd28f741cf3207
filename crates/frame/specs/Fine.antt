-- What every coded header has, whatever its bytes are: each number is a byte, or has a byte for its magnitude; and there are at most eight
-- token partitions.
use Rattle.std.specs.Prelude.{◌<◌}
use Rattle.reader.specs.ReadingLaws.{Bytes}
use Rattle.frame.specs.declared.fields.CodedNumber.{CodedNumber}
use Rattle.frame.specs.declared.fields.Four.{Four}
use Rattle.frame.specs.declared.fields.Three.{Three}
use Rattle.frame.specs.declared.fields.Features.{Features}
use Rattle.frame.specs.declared.fields.Segments.{Segments}
use Rattle.frame.specs.declared.fields.Deltas.{Deltas}
use Rattle.frame.specs.declared.fields.Filter.{Filter}
use Rattle.frame.specs.declared.fields.QuantIndices.{QuantIndices}
use Rattle.frame.specs.declared.fields.Header.{Header}

-- a magnitude that is a byte
abbrev pub Small : CodedNumber → Type 0
Small x = x.size < 256

-- four of them
pub record FineFour (f : Four) : Type 0 where
  pub a : Small f.a
  pub b : Small f.b
  pub c : Small f.c
  pub d : Small f.d

-- three bytes
pub record FineThree (t : Three) : Type 0 where
  pub a : t.a < 256
  pub b : t.b < 256
  pub c : t.c < 256

-- what update_segmentation() gives the segments
pub record FineFeatures (f : Features) : Type 0 where
  pub absolute : f.absolute < 256
  pub quantizers : FineFour f.quantizers
  pub levels : FineFour f.levels

-- all that it gives
pub record FineSegments (g : Segments) : Type 0 where
  pub on : g.on < 256
  pub map : g.map < 256
  pub features : FineFeatures g.features
  pub probs : FineThree g.probs

-- the two deltas of the filter's level
pub record FineDeltas (d : Deltas) : Type 0 where
  pub intra : Small d.intra
  pub small : Small d.small

-- the loop filter's fields
pub record FineFilter (f : Filter) : Type 0 where
  pub level : f.level < 256
  pub sharpness : f.sharpness < 256
  pub on : f.on < 256
  pub deltas : FineDeltas f.deltas

-- the quantizers' fields
pub record FineQuantIndices (q : QuantIndices) : Type 0 where
  pub base : q.base < 256
  pub ydc : Small q.ydc
  pub y2dc : Small q.y2dc
  pub y2ac : Small q.y2ac
  pub uvdc : Small q.uvdc
  pub uvac : Small q.uvac

-- the whole coded header
pub record FineTaken (h : Header) : Type 0 where
  pub segments : FineSegments h.segments
  pub filter : FineFilter h.filter
  pub partitions : h.partitions < 4
  pub quantizers : FineQuantIndices h.quantizers
  pub probs : Bytes h.probs
  pub skip : h.skip < 256
  pub chance : h.chance < 256
