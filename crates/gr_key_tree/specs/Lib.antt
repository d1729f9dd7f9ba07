pub mod Order
pub mod Pairs
pub mod Inside
pub mod Growing
