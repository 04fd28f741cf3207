use Rattle.numbers.specs.Words.{ℕ, ◌∙◌, byte_bit, refl, ap, Bool, ◌&&◌, ltb, [], ◌∷◌}
use Rattle.lent.specs.Memory.{strength_width}
use Rattle.lent.specs.RecordsLaws.{written_as}
use Rattle.lent.proofs.macroblocks.write_strength.Goals as goal

pub returns : goal.returns
returns c =
    written_as strength_width c.args.mem.now c.args.i refl
    (ap (λ (f : Bool). f && ltb c.args.kinds.segment 4) c.strength_fine.ensures)
    (ap (λ (n : ℕ). c.args.t.limit ∷ c.args.t.inner ∷ c.args.t.threshold ∷ c.args.t.inside ∷ c.args.kinds.segment ∷ n ∷ []) (c.from.ensures ∙ byte_bit _))
    c.write.ensures
