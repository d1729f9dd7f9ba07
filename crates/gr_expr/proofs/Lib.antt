pub mod Counting
pub mod Hops
pub mod Joining
pub mod Opening
pub mod Utf8
