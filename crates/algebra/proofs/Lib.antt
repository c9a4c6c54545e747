pub mod Ring
pub mod Solve
pub mod Euclid
pub mod Residue
pub mod Hom
pub mod Polynomial
pub mod Roots
pub mod Proved
