pub mod Denials
pub mod Inner
pub mod Permissions
