use Rattle.casefile.specs.CaseFileLaws.{too_short, long_enough}
use Rattle.casefile.proofs.layout.well_formed.Goals as goal

pub returns-then-n-lt2206 : goal.returns-then-n-lt2206
returns-then-n-lt2206 c = too_short _ c.if-n-lt2206.true

pub returns : goal.returns
returns c = rw (c.whole.ensures, c.height-h.ensures, c.width-w.ensures, c.word-rest.ensures.0, c.byte-version.ensures.0) (long_enough _ c.if-n-lt2206.false)
