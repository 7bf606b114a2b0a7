pub mod Backing
pub mod Connection
pub mod Fault
pub mod Rows
pub mod Schema
pub mod Told
pub mod OpenSchema
pub mod Found
