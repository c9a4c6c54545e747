pub mod Limits
pub mod Input
pub mod Printed
