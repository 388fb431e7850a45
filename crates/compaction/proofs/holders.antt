pub mod HolderTable
pub mod SectorNumber
