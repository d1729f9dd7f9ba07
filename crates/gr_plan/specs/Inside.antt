pub mod Planes
pub mod Leaves
