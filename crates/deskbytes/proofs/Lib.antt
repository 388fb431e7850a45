pub mod Filling
pub mod LunBytes
pub mod PackedDesk
pub mod PackedLun
pub mod UnpackedDesk
pub mod UnpackedLun
