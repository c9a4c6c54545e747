pub mod Filling
pub mod Evaluating
pub mod Answering
