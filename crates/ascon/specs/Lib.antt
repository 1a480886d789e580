pub mod Permutation
pub mod Laws
