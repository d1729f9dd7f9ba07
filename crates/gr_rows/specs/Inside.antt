pub mod Told
pub mod Targets
pub mod Keys
pub mod Places
pub mod Loads
