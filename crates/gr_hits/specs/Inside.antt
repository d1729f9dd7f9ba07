pub mod Counts
pub mod Cursors
pub mod Parts
pub mod Sums
