-- tokens: definitions, the steps of a block, laws that callers cite
pub mod Block
pub mod BlockSteps
pub mod BlockLaws
