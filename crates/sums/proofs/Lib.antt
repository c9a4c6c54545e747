pub mod Cutting
pub mod Counting
pub mod Fronts
pub mod Rounds
pub mod Proved
