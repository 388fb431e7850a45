pub mod Growing
pub mod Opens
pub mod Outcomes
pub mod Room
pub mod Slots
pub mod Verdict
