pub mod Kept
pub mod High
pub mod Next
