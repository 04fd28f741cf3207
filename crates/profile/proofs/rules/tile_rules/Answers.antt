use Rattle.numbers.specs.Words.{sym, ◌∙◌, not-false, not-true}
use Rattle.profile.specs.ProfileLaws.{tile_size, tile_count, tile_fits}
use Rattle.profile.proofs.rules.tile_rules.Goals as goal

pub returns-then-not-size_fits : goal.returns-then-not-size_fits
returns-then-not-size_fits c = tile_size _ (sym c.size_fits.ensures ∙ not-true _ c.if-not-size_fits.true-raw)

pub returns-then-not-count_fits : goal.returns-then-not-count_fits
returns-then-not-count_fits c = tile_count _ (sym c.size_fits.ensures ∙ not-false _ c.if-not-size_fits.false-raw) (sym c.count_fits.ensures ∙ not-true _ c.if-not-count_fits.true-raw)

pub returns : goal.returns
returns c = tile_fits _ (sym c.size_fits.ensures ∙ not-false _ c.if-not-size_fits.false-raw) (sym c.count_fits.ensures ∙ not-false _ c.if-not-count_fits.false-raw)
