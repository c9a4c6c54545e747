pub mod Prime
pub mod Proved
