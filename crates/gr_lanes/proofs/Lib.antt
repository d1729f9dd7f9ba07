pub mod Ends
pub mod Masks
pub mod Signs
