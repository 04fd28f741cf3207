-- Deblocking: the definition, where edges lie in a plane, a block of sixteen positions, laws.
pub mod Deblock
pub mod DeblockLaws
pub mod Located
pub mod ChecksLaws
pub mod LocalLaws
pub mod Moves
pub mod MovesLaws
pub mod Block
pub mod BlockLaws
