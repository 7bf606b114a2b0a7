mod Rising
pub mod Sorting
pub mod Places
mod Appended
pub mod Sent
