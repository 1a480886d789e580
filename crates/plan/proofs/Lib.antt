mod ByScheme
mod Counting
mod Walk
