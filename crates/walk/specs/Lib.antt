pub mod Game
pub mod Rule
pub mod Claims
pub mod Session
pub mod Theorems
