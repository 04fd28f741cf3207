use Rattle.profile.specs.Profile.{sharpness_fits_of}
use Rattle.profile.proofs.rules.sharpness_fits.Goals as goal

pub returns : goal.returns
unfolding sharpness_fits_of
returns c = rw c.present_at.ensures
