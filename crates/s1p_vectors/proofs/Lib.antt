mod Formula
mod Steps
pub mod Tables
pub mod Jobs
