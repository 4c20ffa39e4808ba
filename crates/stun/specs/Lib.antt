pub mod AttributeNumbers
pub mod Kinds
pub mod Message
pub mod Values
pub mod Inner
pub mod Peers
