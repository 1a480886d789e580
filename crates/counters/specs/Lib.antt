pub mod Sealings
pub mod Parcels
pub mod Kept
