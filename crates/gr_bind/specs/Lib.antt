pub mod Kinds
pub mod Columns
pub mod Typing
pub mod Inside
