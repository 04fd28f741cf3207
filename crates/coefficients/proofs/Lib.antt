pub mod BlockAnswers
pub mod BlockTurns
