pub mod Wire
pub mod Inner
