pub mod Changes
pub mod Files
pub mod Rights
pub mod Code
