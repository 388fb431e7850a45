pub mod Desk
pub mod Answers
pub mod Calls
pub mod Code
