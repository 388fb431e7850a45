pub mod Modes
pub mod Luns
pub mod Code
