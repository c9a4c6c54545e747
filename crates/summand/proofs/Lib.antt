pub mod Rows
pub mod Line
pub mod Wires
pub mod Passes
pub mod Sums
