-- definitions
pub mod Encoder
pub mod Room
-- laws
pub mod Code
pub mod CodeLaws
pub mod NumberLaws
pub mod EncoderLaws
pub mod RoomLaws
pub mod WriteLaws
pub mod ShiftLaws
pub mod KeptLaws
-- small lists of symbols, by computation
pub mod Samples
