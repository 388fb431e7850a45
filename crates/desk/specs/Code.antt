pub mod Opened
pub mod Left
