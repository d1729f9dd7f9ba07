pub mod Positions
pub mod Numbers
pub mod Postings
pub mod Inside
