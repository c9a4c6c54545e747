pub mod Halves
pub mod Product
