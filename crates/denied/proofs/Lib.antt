pub mod Laws
pub mod Nodes
pub mod Shape
pub mod Strings
pub mod Theorem
