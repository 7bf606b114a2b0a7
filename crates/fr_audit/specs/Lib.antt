pub mod Entry
pub mod Audited
pub mod Run
pub mod Law
pub mod Checking
