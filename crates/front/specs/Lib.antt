pub mod Blocks
pub mod Areas
pub mod Front
pub mod Code
