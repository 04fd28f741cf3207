pub mod Careful
pub mod Counted
pub mod Steps
