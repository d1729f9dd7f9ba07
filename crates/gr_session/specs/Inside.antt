pub mod Body
pub mod Forms
pub mod Kept
pub mod Stepping
