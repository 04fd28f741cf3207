use Rattle.numbers.specs.Words.{refl}
use Rattle.profile.specs.Profile.{size_fits_of}
use Rattle.profile.proofs.rules.size_fits.Goals as goal

pub returns : goal.returns
unfolding size_fits_of
returns c = refl
