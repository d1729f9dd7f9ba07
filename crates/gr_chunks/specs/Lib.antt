pub mod Segments
pub mod Cursor
pub mod Inside
