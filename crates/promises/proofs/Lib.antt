pub mod Isolated
pub mod DeblockedLaws
pub mod KeyFrameLaws
pub mod CalledLaws
pub mod RescueLaws
pub mod RemadeLaws
pub mod RescueDeblockedLaws
