use Rattle.numbers.specs.Words.{sym, ◌∙◌, not-false, not-true}
use Rattle.profile.specs.ProfileLaws.{header_segments, header_sharpness, header_fits}
use Rattle.profile.proofs.rules.header_rules.Goals as goal

pub returns-then-not-segments_fit : goal.returns-then-not-segments_fit
returns-then-not-segments_fit c = header_segments _ (sym c.segments_fit.ensures ∙ not-true _ c.if-not-segments_fit.true-raw)

pub returns-then-not-sharpness_fits : goal.returns-then-not-sharpness_fits
returns-then-not-sharpness_fits c = header_sharpness _ (sym c.segments_fit.ensures ∙ not-false _ c.if-not-segments_fit.false-raw) (sym c.sharpness_fits.ensures ∙ not-true _ c.if-not-sharpness_fits.true-raw)

pub returns : goal.returns
returns c = header_fits _ (sym c.segments_fit.ensures ∙ not-false _ c.if-not-segments_fit.false-raw) (sym c.sharpness_fits.ensures ∙ not-false _ c.if-not-sharpness_fits.false-raw)
