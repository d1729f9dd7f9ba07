-- What private clauses and invariants cite.
pub mod Rising
pub mod Changes
pub mod Seen
pub mod Parts
pub mod Held
pub mod Falls
pub mod Places
pub mod Halves
pub mod Root
pub mod Less
