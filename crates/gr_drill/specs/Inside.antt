pub mod Lent
pub mod Tally
pub mod Same
pub mod Fitting
pub mod Tokens
pub mod Legible
