pub mod Picture
pub mod TurnLaws
pub mod PictureLaws
pub mod CallLaws
pub mod FinalLaws
pub mod CountsLaws
pub mod Halt
pub mod HaltLaws
