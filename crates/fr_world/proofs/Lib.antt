pub mod Ups
pub mod Hears
pub mod Heard
pub mod ToProxies
pub mod Delivered
pub mod Grows
pub mod Replayed
