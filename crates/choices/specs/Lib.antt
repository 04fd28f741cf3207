pub mod Choices
pub mod ChoicesLaws
