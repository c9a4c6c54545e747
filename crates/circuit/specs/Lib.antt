pub mod Limits
pub mod Gate
pub mod Circuit
pub mod Legal
pub mod Values
pub mod Sized
pub mod Theorems
