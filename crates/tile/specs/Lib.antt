pub mod PartitionsLaws
pub mod ChecksLaws
pub mod Tile
