pub mod Survey
pub mod SurveyLaws
pub mod Tally
pub mod TallyLaws
pub mod TotalLaws
