pub mod FileTails
pub mod FileVerdicts
pub mod SoundVerdict
