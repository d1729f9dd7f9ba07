-- What private clauses and invariants cite.
pub mod Places
pub mod Lists
pub mod Truths
pub mod Holds
pub mod Kept
