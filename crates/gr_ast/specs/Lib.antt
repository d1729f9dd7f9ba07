pub mod Trees
pub mod Made
pub mod Columns
