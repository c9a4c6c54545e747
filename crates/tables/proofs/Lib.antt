pub mod Front
pub mod Pairing
pub mod Spreading
pub mod Folding
