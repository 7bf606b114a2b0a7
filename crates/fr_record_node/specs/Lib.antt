pub mod Several
pub mod Replay
pub mod Node
pub mod Reading
pub mod CellFile
pub mod CellFileLaws
