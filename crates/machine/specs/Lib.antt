pub mod Words
pub mod Machine
pub mod Code
pub mod Exported
pub mod Said
pub mod Theorems
