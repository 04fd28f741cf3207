pub mod KeyFrame
pub mod KeyFrameLaws
