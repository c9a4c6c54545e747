mod Words
pub mod Found
pub mod Answers
pub mod RoundTrip
pub mod Proved
