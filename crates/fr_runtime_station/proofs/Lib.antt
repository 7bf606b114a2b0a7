mod Journals
pub mod Named
mod Places
pub mod Sent
