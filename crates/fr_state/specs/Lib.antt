pub mod BigEndian
pub mod Generations
pub mod Laws
pub mod LookUp
pub mod Order
pub mod Reading
pub mod Same
pub mod Spelling
