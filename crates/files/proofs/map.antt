pub mod MapFilled
pub mod OpenBlock
