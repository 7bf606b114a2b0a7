pub mod Db
