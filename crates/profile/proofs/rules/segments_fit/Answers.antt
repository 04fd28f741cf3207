use Rattle.profile.specs.Profile.{segments_fit_of}
use Rattle.profile.proofs.rules.segments_fit.Goals as goal

pub returns : goal.returns
unfolding segments_fit_of
returns c = rw (c.present_at.ensures, c.present_at-2.ensures)
