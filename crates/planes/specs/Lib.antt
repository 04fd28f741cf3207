-- Planes: painting.
pub mod Paint
pub mod Pieces
-- where squares and sub-blocks lie
pub mod Places
-- what callers and proofs cite
pub mod PaintLaws
pub mod PiecesLaws
