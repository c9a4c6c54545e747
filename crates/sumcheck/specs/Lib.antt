pub mod Summand
pub mod Message
pub mod Line
pub mod Theorems
pub mod Gatewise
