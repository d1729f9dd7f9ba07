pub mod Levels
pub mod Ranges
pub mod Added
pub mod Inside
