pub mod Keeping
pub mod Reach
