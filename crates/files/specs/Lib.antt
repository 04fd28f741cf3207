pub mod WebpCalls
pub mod WebpCallsLaws
