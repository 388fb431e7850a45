pub mod Compaction
pub mod Steps
pub mod Code
