pub mod Lines
pub mod PutLaws
pub mod Requests
