pub mod Change
pub mod Codes
pub mod Values
pub mod Requests
pub mod Inner
