pub mod Going
pub mod Committing
pub mod Sent
pub mod Flying
pub mod Returning
pub mod Example
