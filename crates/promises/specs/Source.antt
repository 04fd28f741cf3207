-- Demand 2, the source's clauses: what the transforms give, in the words of vp8_transform.
use Rattle.std.specs.Prelude.{◌<◌, ◌≡◌}
use Rattle.numbers.specs.Words.{ℕ, Bool, true, List, ℤ}
use Rattle.transform.specs.Transform.{at, block_fits, samples_of}
use Rattle.transform.specs.TransformLaws.{good_fit}
use Rattle.transform.specs.TransformSource.{sample, sample_source}

-- each of the sixteen results, of coefficients that fit 16 bits
pub transformed_source : (c : List ℤ) (walsh : Bool) → block_fits c ≡ true → (k : ℕ) → k < 16 → at (samples_of walsh c) k ≡ sample c k walsh
transformed_source c walsh e = sample_source walsh (good_fit e)
