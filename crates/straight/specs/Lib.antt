-- The kernel's tests and rules apart, and in bytes.
pub mod Straight
pub mod StraightLaws
pub mod BytesLaws
