pub mod Left
pub mod Again
