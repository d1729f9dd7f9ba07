pub mod Parts
pub mod Located
pub mod Walks
pub mod Room
