pub mod Seats
pub mod SeatedRuns
pub mod ByRight
pub mod OldVolumes
