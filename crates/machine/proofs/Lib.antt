pub mod Contracts
pub mod Figures
pub mod Simulation
pub mod Holds
pub mod OfCode
pub mod OfLibrary
pub mod Proved
