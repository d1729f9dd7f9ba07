pub mod Root
pub mod Readers
pub mod Inside
