pub mod Outcomes
pub mod State
pub mod Step
