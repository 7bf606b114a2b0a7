pub mod Placement
pub mod CoverLaw
pub mod Shards
pub mod ShardLaw
pub mod Bodies
pub mod Split
pub mod SplitLaw
