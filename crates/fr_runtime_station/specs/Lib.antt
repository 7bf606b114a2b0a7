pub mod Answering
pub mod Called
pub mod Chosen
pub mod Named
pub mod Places
