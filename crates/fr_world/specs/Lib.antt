pub mod World
pub mod Stepping
pub mod Replaying
