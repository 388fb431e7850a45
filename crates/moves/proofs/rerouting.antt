pub mod NewBlock
pub mod RunsPushed
