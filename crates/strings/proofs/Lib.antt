mod Placing
mod Agreeing
