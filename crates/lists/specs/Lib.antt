pub mod Each
pub mod Count
pub mod Buffer
pub mod Front
