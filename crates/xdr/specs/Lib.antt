pub mod Limits
pub mod Read
pub mod Encode
pub mod Theorems
