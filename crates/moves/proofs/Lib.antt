pub mod Rearranged
pub mod Relocated
pub mod RelocatedSound
pub mod ReroutedBlock
