pub mod Accounts
mod Letters
mod Rows
pub mod Steps
