pub mod AnsweredBlocks
pub mod FilledAreas
pub mod CompactReports
pub mod KeptDesks
pub mod RequestsLeft
pub mod ServedCalls
pub mod TransferCalls
