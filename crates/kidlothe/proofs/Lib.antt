pub mod Opened
pub mod Limits
pub mod Proved
