pub mod Letters
pub mod SectorsDrawn
pub mod Vectors
