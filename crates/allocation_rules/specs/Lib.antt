pub mod Allocations
pub mod Inner
