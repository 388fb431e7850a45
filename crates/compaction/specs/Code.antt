pub mod Going
pub mod Holders
