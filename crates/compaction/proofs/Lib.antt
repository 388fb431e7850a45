pub mod ClosedUp
pub mod DataSectors
pub mod Quota
pub mod Stepped
pub mod StepsRearrange
