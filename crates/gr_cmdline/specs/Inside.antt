pub mod Bindings
pub mod Brackets
pub mod Buffered
pub mod Distinct
pub mod Reading
