pub mod Arrays
pub mod FitLaws
pub mod Fitting
pub mod Walks
pub mod Probing
pub mod Steps
pub mod Vectors
