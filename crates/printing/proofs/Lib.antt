pub mod Input
pub mod Parts
pub mod Lengths
pub mod Taken
