pub mod Tail
pub mod Shape
pub mod Refusals
pub mod Merging
pub mod Law
pub mod Copied
