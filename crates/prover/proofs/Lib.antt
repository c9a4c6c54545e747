pub mod Values
pub mod Following
pub mod Transcripts
pub mod Proving
