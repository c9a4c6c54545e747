pub mod Limits
pub mod Extended
