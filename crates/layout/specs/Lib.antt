pub mod Gate
pub mod Gates
