pub mod Options
pub mod Setting
pub mod Report
