pub mod Ends
pub mod Legible
pub mod Named
pub mod Tokens
