-- `samples` meets its contract: the shortcut is the whole transform, by the law of that name.
use Rattle.numbers.specs.Words.{sym, ◌∙◌, ap, true, false, lit<, replicate, ℤ, ◌+ℤ◌, there, passed, w32}
use Rattle.transform.specs.Transform.{bias_of, result_of, samples_of}
use Rattle.transform.specs.TransformLaws.{vertical_asks, horizontal_asks, results_ask, shortcut}
use Rattle.transform.proofs.samples.Goals as goal

pub shortcut-requires : goal.shortcut-requires
shortcut-requires c = passed w32 (c.requires.coefficients_in.fit 0 (lit< tt)) tt tt

pub vertical-requires : goal.vertical-requires
vertical-requires c = vertical_asks true c.requires.coefficients_in c.grid.ensures

pub horizontal-requires : goal.horizontal-requires
horizontal-requires c = horizontal_asks true c.requires.coefficients_in c.grid.ensures c.vertical.ensures

pub results-requires : goal.results-requires
results-requires c = results_ask true c.requires.coefficients_in c.grid.ensures c.vertical.ensures c.horizontal.ensures

pub vertical-requires-else-walsh : goal.vertical-requires-else-walsh
vertical-requires-else-walsh c = vertical_asks false c.requires.coefficients_in c.grid-else-walsh.ensures

pub horizontal-requires-else-walsh : goal.horizontal-requires-else-walsh
horizontal-requires-else-walsh c = horizontal_asks false c.requires.coefficients_in c.grid-else-walsh.ensures c.vertical-else-walsh.ensures

pub results-requires-else-walsh : goal.results-requires-else-walsh
results-requires-else-walsh c = results_ask false c.requires.coefficients_in c.grid-else-walsh.ensures c.vertical-else-walsh.ensures c.horizontal-else-walsh.ensures

pub returns-then-plain : goal.returns-then-plain
returns-then-plain c =
    c.shortcut.ensures ∙ ap (λ (d : ℤ). replicate 16 (result_of c.args.walsh (d +ℤ bias_of c.args.walsh))) (there w32 (c.requires.coefficients_in.fit 0 (lit< tt)) tt).eq
    ∙ sym (shortcut c.args.walsh (c.requires.plain_to c.if-plain.true))

pub returns-then-walsh : goal.returns-then-walsh
unfolding samples_of
returns-then-walsh c = rw c.if-walsh.true (cc)

pub returns-else-walsh : goal.returns-else-walsh
unfolding samples_of
returns-else-walsh c = rw c.if-walsh.false (cc)
