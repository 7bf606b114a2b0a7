pub mod RealTime
pub mod History
pub mod Machine
pub mod Refines
pub mod Example
