pub mod Play
pub mod Session
pub mod Loop
pub mod Saying
pub mod Proved
