pub mod Options
pub mod Script
pub mod Lines
