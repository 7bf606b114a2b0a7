pub mod Turns
pub mod Keys
pub mod Places
pub mod Finding
pub mod Happened
