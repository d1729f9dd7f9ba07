pub mod Publish
pub mod Inside
