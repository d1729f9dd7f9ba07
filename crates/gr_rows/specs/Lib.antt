pub mod Text
pub mod Names
pub mod Members
pub mod Rows
pub mod Inside
