pub mod ByTurn
pub mod Growth
pub mod Accounts
pub mod Cells
pub mod Register
pub mod States
pub mod Votes
pub mod Chosen
pub mod Parents
pub mod Lines
pub mod Tests
pub mod Turns
pub mod Events
pub mod Replays
mod Taking
