-- Prediction of a block: definitions, what single functions give, and laws for callers and proofs.
pub mod Predict
pub mod Pieces
pub mod PredictLaws
