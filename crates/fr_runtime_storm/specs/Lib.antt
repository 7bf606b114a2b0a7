pub mod Draws
pub mod Orders
pub mod Refusal
pub mod Frailty
