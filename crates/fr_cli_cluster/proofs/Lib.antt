mod Bad
mod Drawn
mod Shards
