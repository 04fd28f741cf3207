pub mod CaseFile
pub mod Measures
pub mod Run
pub mod CaseFileLaws
pub mod MeasuresLaws
pub mod RunLaws
