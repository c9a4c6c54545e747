pub mod Limits
pub mod Table
