pub mod Wide
pub mod Padded
pub mod Counted
pub mod WideLaws
pub mod PaddedLaws
pub mod CountedLaws
pub mod WideRuns
