pub mod Flags
pub mod Names
pub mod Held
pub mod Ways
pub mod Sources
