pub mod Client
pub mod Decisions
pub mod Inner
