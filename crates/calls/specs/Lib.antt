pub mod Rowable
