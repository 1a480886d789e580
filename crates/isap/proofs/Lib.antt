mod Tests
mod Going
mod Turning
mod Slicing
mod Beginning
mod Wholes
