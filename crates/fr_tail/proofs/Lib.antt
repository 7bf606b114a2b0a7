pub mod Copies
pub mod TailLaw
pub mod SeedLists
pub mod Refused
pub mod Rising
pub mod Merge
pub mod Shapes
