pub mod Allocatable
pub mod FileAllocated
pub mod RoomFound
