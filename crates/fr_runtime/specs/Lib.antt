pub mod Fault
pub mod Handed
pub mod Heard
pub mod Job
pub mod Orders
pub mod Sworn
pub mod Unfinished
