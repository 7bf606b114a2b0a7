pub mod Lists
pub mod Rows
pub mod Last
pub mod Named
pub mod Cells
pub mod Same
pub mod Law
