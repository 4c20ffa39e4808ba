pub mod Accepted
pub mod Laws
pub mod Sizes
pub mod WellFormed
