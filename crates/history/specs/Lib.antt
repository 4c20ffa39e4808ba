pub mod Counted
pub mod Events
pub mod Statement
pub mod Denied
pub mod Causes
pub mod Fits
pub mod ReadBack
pub mod Lines
