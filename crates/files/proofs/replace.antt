pub mod RecordUpdated
pub mod UpdateIs
