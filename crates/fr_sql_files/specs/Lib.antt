pub mod Shut
pub mod Kept
pub mod Linked
