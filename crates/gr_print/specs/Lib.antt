pub mod Columns
pub mod Shown
pub mod Block
pub mod Fits
pub mod Inside
