pub mod Schemes
pub mod Limits
