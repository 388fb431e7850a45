pub mod Directory
pub mod Formatted
pub mod Names
pub mod Sat
pub mod Volume
pub mod Code
