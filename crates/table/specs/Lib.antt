pub mod Rows
pub mod Written
pub mod Count
pub mod Theorems
