-- What private clauses and invariants cite.
pub mod Bytes
pub mod Trees
pub mod Seen
pub mod Held
pub mod Puts
