pub mod Listing
pub mod Texts
pub mod Inner
