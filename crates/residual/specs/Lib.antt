-- the residual of a macroblock: definitions, how one part follows another, laws that callers cite, and the source's own definitions
pub mod Residual
pub mod SquaresLaws
pub mod Parts
pub mod ResidualSteps
pub mod ResidualLaws
pub mod ResidualSource
pub mod Symbols
pub mod SymbolsLaws
pub mod Fast
pub mod FastLaws
pub mod Quick
pub mod QuickLaws
pub mod Groups
pub mod GroupsLaws
