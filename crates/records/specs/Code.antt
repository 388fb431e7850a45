pub mod Mapped
pub mod Runs
pub mod Spots
pub mod Walk
