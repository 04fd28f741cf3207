pub mod FrameCalls
pub mod FrameCallsLaws
pub mod TileNumbers
pub mod TileNumbersLaws
