use Rattle.numbers.specs.Words.{◌≤◌, ◌≡◌, true}
use Rattle.survey.specs.Survey.{fits_to}
use Rattle.survey.proofs.sums.fits.Given as goal

abbrev pub invariant-loop-i : goal.invariant-loop-i
invariant-loop-i l = (l.i ≤ 37) × (fits_to l.counts l.other l.i ≡ true)
