pub mod GoingOn
pub mod StepMade
