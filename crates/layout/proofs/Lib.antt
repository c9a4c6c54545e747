pub mod Readers
pub mod Triples
pub mod KindNumbers
