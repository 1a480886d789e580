pub mod Fips202
pub mod Agree
pub mod Laws
pub mod Lanes
pub mod Ahead
