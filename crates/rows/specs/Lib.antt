pub mod Bits
pub mod Gone
