pub mod Same
pub mod Around
pub mod Types
pub mod Round
pub mod Ranges
pub mod Laws
