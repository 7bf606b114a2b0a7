pub mod Phase
pub mod Scene
pub mod Contended
