pub mod Jobs
pub mod FromBeginnings
pub mod Endings
pub mod BetweenRounds
pub mod SpookEndings
pub mod SpookBetween
