use Rattle.numbers.specs.Words.{refl}
use Rattle.profile.specs.Profile.{count_fits_of}
use Rattle.profile.proofs.rules.count_fits.Goals as goal

pub returns : goal.returns
unfolding count_fits_of
returns c = refl
