mod Counting
pub mod AsconKnown
pub mod KeccakKnown
pub mod ClydeKnown
pub mod ShadowKnown
