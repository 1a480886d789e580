mod Along
mod Runs
pub mod Lbox
pub mod LboxUndone
pub mod Sbox
pub mod Undone
pub mod Theorems
pub mod OnBytes
