use Rattle.numbers.specs.Words.{[], ◌∷◌}
use Rattle.boundary.proofs.tile_numbers.eight_spans.Goals as goal

pub returns : goal.returns
returns c = λ i. c.token_span.ensures i ∷ c.token_span-2.ensures i ∷ c.token_span-3.ensures i ∷ c.token_span-4.ensures i ∷ c.token_span-5.ensures i ∷ c.token_span-6.ensures i ∷ c.token_span-7.ensures i ∷ c.token_span-8.ensures i ∷ []
