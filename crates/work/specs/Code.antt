pub mod Deeds
pub mod Runs
pub mod Codings
pub mod CodingLaws
