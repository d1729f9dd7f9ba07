pub mod Cells
pub mod Masks
pub mod Places
pub mod Truths
pub mod Inside
