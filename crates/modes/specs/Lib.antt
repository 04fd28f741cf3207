pub mod Table
pub mod TableLaws
pub mod Modes
pub mod ModesLaws
pub mod AnswersLaws
pub mod CountsLaws
pub mod Quick
pub mod ContextsLaws
