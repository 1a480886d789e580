pub mod Numbers
pub mod Putting
pub mod Parts
pub mod Pieces
