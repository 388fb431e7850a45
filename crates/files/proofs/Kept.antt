pub mod EntryAlike
pub mod FileSame
pub mod FrameKept
pub mod FreeAndOwned
pub mod RecordsSame
pub mod Recounted
