pub mod Parts
pub mod Checksum
