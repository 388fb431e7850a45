pub mod AppendIs
pub mod AppendNumbers
pub mod AppendSteps
pub mod CountAdded
pub mod FileLengthened
pub mod GrownBlock
pub mod NeededSectors
pub mod OwnersJoined
