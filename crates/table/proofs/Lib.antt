pub mod Opened
pub mod Rows
pub mod Written
pub mod Count
pub mod Proved
