pub mod ExtendedBy
pub mod LowestFound
pub mod LowestFree
pub mod TakingLoops
