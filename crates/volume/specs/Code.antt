pub mod Found
pub mod Located
pub mod Marks
pub mod Searches
pub mod Used
