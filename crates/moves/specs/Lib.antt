pub mod Moves
pub mod Code
