pub mod SlotInUse
pub mod UsedSlots
