pub mod ExplainCalls
pub mod ExplainCallsLaws
pub mod FilterCalls
pub mod FilterCallsLaws
