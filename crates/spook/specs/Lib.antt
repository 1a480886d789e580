pub mod Kinds
pub mod Entering
pub mod Turning
pub mod Leaving
pub mod Going
