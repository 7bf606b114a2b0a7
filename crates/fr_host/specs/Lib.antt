pub mod Device
pub mod Below
pub mod Due
pub mod Mirror
