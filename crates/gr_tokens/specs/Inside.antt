-- What private clauses and invariants cite.
pub mod Periods
pub mod Overlaps
pub mod Kept
pub mod Matches
pub mod Same
pub mod Alone
pub mod Plain
