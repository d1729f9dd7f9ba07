pub mod Hits
pub mod Inside
pub mod Places
