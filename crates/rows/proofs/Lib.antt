mod Holding
mod Engines
