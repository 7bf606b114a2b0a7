pub mod Grown
pub mod Lists
pub mod Histories
pub mod Repeats
pub mod Founds
pub mod Storages
