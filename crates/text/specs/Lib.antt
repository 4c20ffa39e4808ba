pub mod Inner
pub mod Scan
pub mod Text
