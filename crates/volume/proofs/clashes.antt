pub mod EntryClashes
pub mod FileNumbers
pub mod NamesDiffer
