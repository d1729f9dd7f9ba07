pub mod Table
pub mod Sound
pub mod Masks
pub mod Inside
