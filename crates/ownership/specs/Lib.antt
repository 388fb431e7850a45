pub mod Blocks
pub mod Owners
pub mod Code
