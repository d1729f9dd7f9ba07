-- What a turn keeps inside.
pub mod Views
pub mod Rule
pub mod Plays
pub mod Passes
pub mod Seats
