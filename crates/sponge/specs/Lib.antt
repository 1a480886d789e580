pub mod Kinds
pub mod Entering
pub mod Leaves
pub mod Engines
pub mod Offsets
