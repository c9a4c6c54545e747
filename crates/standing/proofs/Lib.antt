pub mod Padded
pub mod Points
pub mod Outputs
pub mod Coins
pub mod Lengths
pub mod Rounds
pub mod Loops
