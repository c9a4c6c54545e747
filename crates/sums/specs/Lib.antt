pub mod Wire
pub mod Round
