pub mod Read
pub mod Layouts
