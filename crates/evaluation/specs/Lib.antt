pub mod Layer
pub mod Evaluate
