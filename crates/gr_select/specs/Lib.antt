pub mod Texts
pub mod Condition
pub mod Numbers
pub mod Select
pub mod Inside
