pub mod Groups
pub mod Drilldowns
pub mod Block
pub mod Fits
pub mod Inside
