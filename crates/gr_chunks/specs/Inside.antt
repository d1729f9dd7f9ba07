pub mod Postings
pub mod Runs
pub mod Appends
