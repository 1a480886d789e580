pub mod Five
pub mod Owned
pub mod Written
pub mod StepLaws
pub mod ByteLaws
pub mod Blocks
pub mod AheadLaws
