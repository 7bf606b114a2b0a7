pub mod Known
pub mod Tables
pub mod Calls
pub mod WorkCalls
pub mod Work
