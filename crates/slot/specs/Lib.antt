pub mod Inner
pub mod Search
pub mod Slot
