pub mod Leading
pub mod Room
pub mod LogSpare
pub mod Node
