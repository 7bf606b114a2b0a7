pub mod Account
pub mod Begins
pub mod Hears
pub mod Late
pub mod NodeFaults
pub mod StoreFaults
