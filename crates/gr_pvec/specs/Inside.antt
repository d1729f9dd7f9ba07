-- What private clauses and invariants cite.
pub mod Packed
pub mod Parts
pub mod Falls
