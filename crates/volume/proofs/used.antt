pub mod EmptySectors
pub mod UsedSlots
pub mod Walked
