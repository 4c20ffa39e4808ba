pub mod Element
pub mod Lends
pub mod Pre
pub mod Walk
pub mod Whole
