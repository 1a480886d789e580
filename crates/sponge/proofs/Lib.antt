mod Padded
mod Placing
mod Picked
