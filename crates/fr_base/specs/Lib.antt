pub mod Bytes
pub mod Map
pub mod HighWater
pub mod Same
pub mod Node
pub mod Faults
pub mod Shape
