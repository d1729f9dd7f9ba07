pub mod Steps
pub mod Queries
pub mod Making
pub mod Fitting
pub mod Running
pub mod Ends
pub mod Stretches
