pub mod Extension
pub mod Tables
pub mod Apart
pub mod Theorems
