pub mod Tables
pub mod Files
pub mod Opening
pub mod Restart
