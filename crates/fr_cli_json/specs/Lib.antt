pub mod Json
pub mod Mutations
pub mod Text
pub mod Tokens
pub mod Hex
pub mod Calls
pub mod Command
