pub mod Scan
pub mod Masks
pub mod Inside
