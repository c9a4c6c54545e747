pub mod Row
pub mod Standing
