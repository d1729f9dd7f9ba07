pub mod Known
pub mod Inside
