pub mod Coins
pub mod Doomed
pub mod Process
pub mod Proved
