pub mod Turns
pub mod Zero
