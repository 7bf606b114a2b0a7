pub mod Rounds
pub mod Ending
