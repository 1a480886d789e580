mod Blocks
mod Rowing
