pub mod Denied
pub mod Inner
pub mod Prefixes
pub mod Strings
pub mod Tree
