pub mod Claims
pub mod Held
pub mod Shapes
pub mod Verdict
