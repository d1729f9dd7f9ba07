pub mod Tables
pub mod Paths
pub mod Values
pub mod Seeks
pub mod Score
pub mod Fits
pub mod Inside
