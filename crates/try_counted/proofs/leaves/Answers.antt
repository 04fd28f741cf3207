use Rattle.numbers.specs.Words.{refl, sym, ◌∙◌, ltb, ltb-true, [], ◌∷◌, all_of_any}
use Rattle.reader.specs.ReadingLaws.{Bytes}
use Rattle.try_counted.specs.Segment.{leaf_valid}
use Rattle.try_counted.proofs.leaves.Goals as goal

probs_bytes : Bytes (120 ∷ 100 ∷ 180 ∷ [])
probs_bytes i = ltb-true _ _ (all_of_any (λ p. ltb p 256) (120 ∷ 100 ∷ 180 ∷ []) 0 refl refl i)

pub loop-n-preserved : goal.loop-n-preserved
loop-n-preserved c = leaf_valid _ _ _ (λ i. (c.type_inv.s i).fits) probs_bytes c.loop-n.invariant (sym c.in-Ok.is ∙ c.chain.ensures)
