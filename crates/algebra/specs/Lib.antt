pub mod Numbers
pub mod Ring
pub mod Hom
pub mod Residue
pub mod Polynomial
pub mod Theorems
