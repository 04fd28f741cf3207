pub mod Profile
pub mod ProfileLaws
pub mod RulesLaws
