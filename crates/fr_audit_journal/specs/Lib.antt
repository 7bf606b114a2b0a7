pub mod Journal
pub mod Names
pub mod Sort
pub mod Merge
pub mod Placed
pub mod Law
pub mod Replays
pub mod Housing
