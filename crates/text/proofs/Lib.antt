pub mod PackedBytes
pub mod PackedLength
pub mod PackedText
pub mod PackingRules
pub mod PackingSteps
pub mod UnpackingSteps
