pub mod Orders
pub mod Passed
pub mod Spans
pub mod Tallies
