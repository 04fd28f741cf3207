-- `deblock` meets its contract: refused by the checks, or luma, and then blue and red together.
use Rattle.std.proofs.lemmas.Result.{err_from_is_err_and}
use Rattle.numbers.specs.Words.{sym, ◌∙◌}
use Rattle.deblock.specs.ChecksLaws.{checked_fine, luma_whole, blue_whole, chroma_beside, refused, checked_done, picture_simple, picture_normal}
use Rattle.deblock.proofs.deblock.Goals as goal

pub returns-in_err-refusal : goal.returns-in_err-refusal
returns-in_err-refusal c =
    let e = err_from_is_err_and c.from_residual.result c.from_residual.ensures.1 in
    rw (e.1, e.2) (refused _ _ _ _ _ (sym c.in_err-refusal.was ∙ c.refusal.ensures))

pub squares-requires-clause-whole_plane : goal.squares-requires-clause-whole_plane
squares-requires-clause-whole_plane c = luma_whole (checked_fine _ _ _ _ _ _ (sym c.in_ok-refusal.was ∙ c.refusal.ensures))

pub returns-then-simple : goal.returns-then-simple
returns-then-simple c = checked_done _ _ _ _ _ (sym c.in_ok-refusal.was ∙ c.refusal.ensures) (picture_simple _ _ _ _ _ c.if-simple.true c.squares.ensures.p_after)

pub squares-requires-2-clause-whole_plane : goal.squares-requires-2-clause-whole_plane
squares-requires-2-clause-whole_plane c = blue_whole (checked_fine _ _ _ _ _ _ (sym c.in_ok-refusal.was ∙ c.refusal.ensures))

pub squares-requires-2-clause-beside : goal.squares-requires-2-clause-beside
squares-requires-2-clause-beside c = chroma_beside (checked_fine _ _ _ _ _ _ (sym c.in_ok-refusal.was ∙ c.refusal.ensures))

pub returns : goal.returns
returns c =
    checked_done _ _ _ _ _ (sym c.in_ok-refusal.was ∙ c.refusal.ensures)
    (picture_normal _ _ _ _ _ c.if-simple.false c.squares.ensures.p_after c.squares-2.ensures.p_after c.squares-2.ensures.q_after)
