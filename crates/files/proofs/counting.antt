pub mod BroughtUp
pub mod CountLoops
