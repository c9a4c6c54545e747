pub mod Each
pub mod Map
pub mod Count
pub mod Buffer
pub mod Storing
pub mod Steps
pub mod Parts
pub mod Front
