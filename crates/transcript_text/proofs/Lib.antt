pub mod Messages
pub mod Limits
pub mod Answers
pub mod Length
