-- `sums` meets its contract: four sums.
use Rattle.numbers.specs.Words.{ℕ, ◌≡◌, ◌∙◌, ap, get_or, ℤ, pos, ◌+ℤ◌, round, there, passed, clip_z, w16}
use Rattle.planes.specs.PiecesLaws.{four_sums}
use Rattle.planes.proofs.add.sums.Goals as goal

pub sum-requires : goal.sum-requires
sum-requires c = passed w16 (c.requires.each.at 0) tt tt

pub sum-requires-2 : goal.sum-requires-2
sum-requires-2 c = passed w16 (c.requires.each.at 1) tt tt

pub sum-requires-3 : goal.sum-requires-3
sum-requires-3 c = passed w16 (c.requires.each.at 2) tt tt

pub sum-requires-4 : goal.sum-requires-4
sum-requires-4 c = passed w16 (c.requires.each.at 3) tt tt

pub returns : goal.returns
returns c =
    let e : (k : ℕ) (q : ℕ) → clip_z (pos q +ℤ round w16 (get_or c.args.r k (pos 0))) ≡ clip_z (pos q +ℤ get_or c.args.r k (pos 0)) = λ k q. ap (λ (r : ℤ). clip_z (pos q +ℤ r)) (there w16 (c.requires.each.at k) tt).eq in
    four_sums _ _ _ (c.sum.ensures ∙ e 0 _) (c.sum-2.ensures ∙ e 1 _) (c.sum-3.ensures ∙ e 2 _) (c.sum-4.ensures ∙ e 3 _)
