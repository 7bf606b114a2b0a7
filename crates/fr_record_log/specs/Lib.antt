pub mod Limits
pub mod Spelling
pub mod Reading
pub mod LogFile
pub mod LogFileLaws
pub mod Law
pub mod Spelled
