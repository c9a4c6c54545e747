pub mod Limits
pub mod Transcript
