pub mod Refusals
pub mod Volumes
pub mod Transfers
pub mod Code
