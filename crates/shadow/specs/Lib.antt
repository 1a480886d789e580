pub mod Shadow
pub mod Diffusion
pub mod Marks
pub mod Fits
pub mod OnBytes
