pub mod Rescue
pub mod ChecksLaws
pub mod RescueLaws
