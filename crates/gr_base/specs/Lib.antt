pub mod Name
pub mod Fault
pub mod Failure
pub mod Limits
pub mod Compare
pub mod Keys
pub mod Text
pub mod Inside
