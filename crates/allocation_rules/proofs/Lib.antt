pub mod FreePort
pub mod Laws
