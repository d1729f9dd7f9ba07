pub mod Words
pub mod Loads
pub mod Dump
pub mod Inside
