pub mod Kept
pub mod Named
pub mod Place
pub mod Rows
