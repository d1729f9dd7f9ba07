pub mod Told
pub mod Bounds
pub mod Folded
pub mod Names
pub mod Literals
pub mod Parts
pub mod Placed
