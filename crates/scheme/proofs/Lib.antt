pub mod Squeezing
